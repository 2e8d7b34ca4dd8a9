use Rattle.std.proofs.Common.{List, ℕ, sym, subst, ◌∙◌}
use Rattle.std.specs.Option.{option_map}
use Rattle.taskscope.specs.Program.{WatchesAtKeys, moment_at}
use Rattle.taskscope.proofs.Outcomes.{heard_until}
use Rattle.taskscope.proofs.program.fulfil_of_input.Goals as goal

pub returns-in-Some-clause-does : goal.returns-in-Some-clause-does
returns-in-Some-clause-does g c =
    let call = c.args.call.now in
    let old = g.O.Write.contents c.args.output.now in
    let new = g.O.Write.contents c.watch_at_keys.new.output in
    heard_until (moment_at call.until) g.S.File.Read.remaining (g.S.Sources.is_of c.args.sources.now call.before.now) c.args.terminal
    (option_map (λ f. f.now) call.filter) (option_map (λ p. p.now) call.to) ((call.title.now, call.before.now), moment_at call.since) call.request c.in-Some.options
    (g.I.Read.remaining c.args.input.now) (g.I.Read.remaining c.args.input.now) old new (g.P.Place.texts c.args.place.now) c.watch_at_keys.result
    (sym c.at_keys.ensures ∙ c.in-Some.is)
    (subst (λ (text : List ℕ). WatchesAtKeys c.in-Some.options text c.args.terminal old new c.watch_at_keys.result) c.filter_text-text.ensures c.watch_at_keys.ensures.does)
