use Rattle.std.proofs.Common.{List, ℕ, sym, subst, inl, ◌∙◌}
use Rattle.std.specs.Option.{option_map}
use Rattle.taskscope.specs.Program.{WatchesAtKeys}
use Rattle.taskscope.proofs.Outcomes.{heard_until}
use Rattle.taskscope.proofs.program.fulfil_of_file.Goals as goal

pub returns-in-Some-clause-does : goal.returns-in-Some-clause-does
returns-in-Some-clause-does g c =
    let call = c.args.call.now in
    let file = c.in-Ok-open.file in
    let given = g.S.File.Read.remaining file in
    let old = g.O.Write.contents c.args.output.now in
    let new = g.O.Write.contents c.watch_at_keys.new.output in
    let watched = heard_until c.in-Ok.until g.S.File.Read.remaining (g.S.Sources.is_of c.args.sources.now call.before.now) c.args.terminal
    (option_map (λ f. f.now) call.filter) (option_map (λ p. p.now) call.to) ((call.title.now, call.before.now), c.in-Ok-moment_of_file.since) call.request c.in-Some.options
    given given old new (g.P.Place.texts c.args.place.now) c.watch_at_keys.result
    (sym c.at_keys.ensures ∙ c.in-Some.is)
    (subst (λ (text : List ℕ). WatchesAtKeys c.in-Some.options text c.args.terminal old new c.watch_at_keys.result) c.filter_text-text.ensures c.watch_at_keys.ensures.does) in
    inl (c.in-Ok.until, (c.in-Ok.ensures.ok, (c.in-Ok-moment_of_file.since, (c.in-Ok-moment_of_file.ensures.ok, (file, (c.in-Ok-open.ensures, (given, watched)))))))

pub returns-clause-does : goal.returns-clause-does
returns-clause-does g c =
    inl (
      c.in-Ok.until,
      (
        c.in-Ok.ensures.ok,
        (c.in-Ok-moment_of_file.since, (c.in-Ok-moment_of_file.ensures.ok, (c.in-Ok-open.file, (c.in-Ok-open.ensures, (_, c.fulfil_until-status.ensures.does))))),
      ),
    )
