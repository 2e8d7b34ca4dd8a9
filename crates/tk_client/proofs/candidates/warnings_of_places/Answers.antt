use Rattle.std.proofs.Common.{ap, ◌∙◌}
use Rattle.std.specs.Prelude.{flat_map}
use Rattle.std.proofs.lemmas.List.{take_all}
use Rattle.tk_client.specs.Candidates.{warnings_at}
use Rattle.tk_client.proofs.PlaceLemmas.{listed}
use Rattle.tk_client.proofs.candidates.warnings_of_places.Goals as goal

pub returns : goal.returns
returns c =
    c.loop-place.invariant
    ∙ ap (flat_map (warnings_at c.args.lints.now c.args.tables.now)) (take_all c.loop-place.place-index c.args.places.now c.loop-place-test.false ∙ c.requires)
    ∙ listed c.args.lints.now c.args.tables.now.now c.args.tables.now.tasks
