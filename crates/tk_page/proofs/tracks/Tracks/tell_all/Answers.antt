use Rattle.std.proofs.Common.{ℕ, List, cond, nat_eq, ap, sym, ◌∙◌, take, arith, Option}
use Rattle.std.proofs.lemmas.List.{take_all}
use Rattle.indexmap.specs.IndexMap.{get}
use Rattle.tk_client.proofs.TimesLemmas.{take_next}
use Rattle.tk_stream.specs.Tables.{is_among}
use Rattle.tk_odd.specs.Keeping.{lasts_in, row_in}
use Rattle.tk_odd.proofs.RowLemmas.{set_next}
use Rattle.tk_page.specs.Kept.{told_track}
use Rattle.tk_page.specs.declared.track.Track.{Track}
use Rattle.tk_page.proofs.TrackLemmas.{made_once, not_again}
use Rattle.tk_page.proofs.tracks.Tracks.tell_all.Goals as goal

pub loop-id-preserved : goal.loop-id-preserved
loop-id-preserved c =
    let told : List ℕ = c.args.told.now in
    let tables = c.args.tables.now in
    let i = c.loop-id.id-index in
    let id : ℕ = c.id-item.result in
    let next = take_next told i id c.loop-id-test.true c.id-item.is in
    let made : ℕ → Option Track → Option Track = λ (n : ℕ) (k : Option Track). told_track c.args.moments.now tables.now (row_in tables n) k in
    let old : ℕ → Option Track = λ (n : ℕ). get nat_eq c.args.self.now.tasks n in
    record {
      tasks = λ once other.
          c.in_ok-tell_shown.ensures.tasks other
          ∙ made_once made old (λ (n : ℕ). get nat_eq c.loop-id.self.tasks n) (take i told) id other (not_again told i id once c.loop-id-test.true c.id-item.is) (c.loop-id.invariant.tasks once)
          ∙ ap (λ (ns : List ℕ). cond (is_among ns other) (made other (old other)) (old other)) (sym next);
      lasting = λ other.
          c.in_ok-tell_shown.ensures.lasting other
          ∙ ap (cond (nat_eq id other) (lasts_in tables id)) (c.loop-id.invariant.lasting other)
          ∙ set_next (lasts_in tables) (is_among c.args.self.now.lasting.keys other) (take i told) id other
          ∙ ap (λ (ns : List ℕ). cond (is_among ns other) (lasts_in tables other) (is_among c.args.self.now.lasting.keys other)) (sym next);
    }

pub returns-clause-tasks : goal.returns-clause-tasks
returns-clause-tasks c = λ once other.
    let old = get nat_eq c.args.self.now.tasks other in
    c.loop-id.invariant.tasks once other
    ∙ ap (λ (ns : List ℕ). cond (is_among ns other) (told_track c.args.moments.now c.args.tables.now.now (row_in c.args.tables.now other) old) old)
    (take_all c.loop-id.id-index c.args.told.now (omega (arith, c.loop-id-test.false)))

pub returns-clause-lasting : goal.returns-clause-lasting
returns-clause-lasting c = λ other.
    c.loop-id.invariant.lasting other
    ∙ ap (λ (ns : List ℕ). cond (is_among ns other) (lasts_in c.args.tables.now other) (is_among c.args.self.now.lasting.keys other)) (take_all c.loop-id.id-index c.args.told.now (omega (arith, c.loop-id-test.false)))
