use Rattle.std.proofs.Common.{◌∙◌, ap}
use Rattle.tk_client.proofs.NotedLemmas.{left-next}
use Rattle.tk_client.proofs.change.left_of.Goals as goal

pub loop-place-preserved : goal.loop-place-preserved
loop-place-preserved c =
    c.in_ok-add_left.ensures
    ∙ left-next c.args.times.now c.args.tables.now.tasks c.args.places.now c.loop-place.place-index c.loop-place-test.true c.loop-place.left.items c.loop-place.invariant
