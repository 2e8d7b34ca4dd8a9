use Rattle.std.proofs.Common.{◌≡◌, ◌∷◌, [], refl, ap, sym, subst, ◌∙◌, arith, take, length, length-take, ℕ}
use Rattle.std.proofs.lemmas.Result.{err_from_is_err_and}
use Rattle.tk_client.specs.Changes.{Timed, timed_in}
use Rattle.tk_client.specs.Changing.{Noted}
use Rattle.tk_client.specs.Meaning.{cut, meaning, goes, after}
use Rattle.tk_client.specs.Feeding.{ClientView}
use Rattle.tk_client.proofs.Pieces.{meaning-append}
use Rattle.tk_client.proofs.FeedLemmas.{cut-line, ended-kept, goes-then, stopped-then, ended-stopped, at_end}
use Rattle.tk_client.proofs.StepLemmas.{stopped-more}
use Rattle.tk_client.proofs.client.Client.step_rest.Goals as goal

pub returns-in_err-hold-clause-step : goal.returns-in_err-hold-clause-step
returns-in_err-hold-clause-step g c =
    let p = err_from_is_err_and c.from_residual.result c.from_residual.ensures.1 in
    rw (p.1, p.2) (record {
      stopped = stopped-more c.args.self.now c.hold.new.self c.args.bytes.now c.args.end c.in_err-hold.field-0.0 c.requires.inside c.in_err-hold.ensures.stopped;
      none = c.in_err-hold.ensures.none;
      kept = c.in_err-hold.ensures.kept;
    })

pub returns-in-Ok-clause-step : goal.returns-in-Ok-clause-step
returns-in-Ok-clause-step g c =
    let old : ClientView = c.args.self.now in
    let mid : ClientView = c.hold.new.self in
    let new : ClientView = c.end_line.new.self in
    let front = take c.args.end c.args.bytes.now in
    let came : meaning old.max_line old.start front ≡ goes mid.start 0 = c.in_ok-hold.ensures.held.came in
    let here : meaning old.max_line mid.start (10 ∷ []) ≡ goes new.start 1 = ap (λ m. meaning m mid.start (10 ∷ [])) (sym c.in_ok-hold.ensures.limit) ∙ c.in-Ok.ensures.ended.came in (
      record {
        some = λ lt. omega arith;
        within = omega (arith, c.requires.inside);
        all = tt;
        line = (front, ap cut c.requires.through ∙ cut-line front c.requires.before);
        took = record {
          came = ap (meaning old.max_line old.start) c.requires.through ∙ goes-then old.max_line old.start mid.start new.start front (10 ∷ []) 0 1 came here;
          sound = c.in-Ok.ensures.ended.sound;
        };
      },
      subst (λ (t : Timed). Noted g.N.Notes.says t (timed_in new.start) c.in-Ok.note) c.in_ok-hold.ensures.kept c.in-Ok.ensures.noted,
    )

pub returns-in_default-clause-step : goal.returns-in_default-clause-step
returns-in_default-clause-step g c =
    let old : ClientView = c.args.self.now in
    let mid : ClientView = c.hold.new.self in
    let end : ℕ = c.args.end in
    let front = take end c.args.bytes.now in
    let came : meaning old.max_line old.start front ≡ goes mid.start 0 = c.in_ok-hold.ensures.held.came in
    let len : length front ≡ end = omega (arith, length-take end c.args.bytes.now, c.requires.inside) in
    record {
      stopped = record {
        within = omega (arith, c.requires.inside);
        few = omega arith;
        by = stopped-then c.in-Err.fault (meaning mid.max_line mid.start (10 ∷ [])) _ 0 end (at_end c.in-Err.fault) c.end_line.new.self
            (ap (meaning old.max_line old.start) c.requires.through ∙ meaning-append old.max_line old.start mid.start front (10 ∷ []) 0 came
            ∙ ap (λ k. after 0 k (meaning old.max_line mid.start (10 ∷ []))) len ∙ ap (λ m. after 0 end (meaning m mid.start (10 ∷ []))) (sym c.in_ok-hold.ensures.limit))
            (ended-stopped c.in-Err.fault mid c.end_line.new.self c.in_default.not-Memory c.in-Err.ensures.ended);
      };
      none = refl;
      kept = ended-kept c.in-Err.fault mid c.end_line.new.self c.in-Err.ensures.ended ∙ c.in_ok-hold.ensures.kept;
    }
