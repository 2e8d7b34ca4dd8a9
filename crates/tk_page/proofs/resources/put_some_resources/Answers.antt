use Rattle.tk_page.specs.Items.{resource}
use Rattle.tk_paper.proofs.PutLemmas.{next_put, nothing}
use Rattle.tk_page.proofs.resources.put_some_resources.Goals as goal

pub loop-place-init : goal.loop-place-init
loop-place-init c = nothing c.args.paper.now

pub loop-place-preserved : goal.loop-place-preserved
loop-place-preserved c =
    next_put (resource c.args.scale c.args.tables.now) c.args.tables.now.resources c.loop-place.place c.loop-place.invariant c.in_ok-put_resource_at.ensures
