use Rattle.std.proofs.Common.{ap, sym, ◌∙◌, ◌++◌}
use Rattle.tk_client.specs.Candidates.{warnings_at}
use Rattle.tk_client.specs.Warnings.{warnings_of}
use Rattle.tk_client.proofs.WarnLemmas.{flat_map-at}
use Rattle.tk_client.proofs.candidates.warnings_in.Goals as goal

pub loop-place-preserved : goal.loop-place-preserved
loop-place-preserved c =
    let f = warnings_of c.args.lints.now c.args.tables.now.now in
    c.in_ok-warn_at.ensures
    ∙ ap (λ xs. xs ++ warnings_at c.args.lints.now c.args.tables.now c.loop-place.place) c.loop-place.invariant
    ∙ sym (flat_map-at f c.args.tables.now.tasks c.loop-place.place)
