use Rattle.tk_frame.specs.PlaceView.{task_if}
use Rattle.tk_frame.proofs.PlaceLemmas.{all_put, next_put}
use Rattle.tk_frame.proofs.place_view.push_tasks.Goals as goal

pub loop-at-preserved : goal.loop-at-preserved
loop-at-preserved c = next_put (task_if c.args.tables.now.now c.args.site.now) c.args.tables.now.tasks c.loop-at.at c.loop-at.invariant c.in_ok-push_if_at.ensures

pub returns : goal.returns
returns c = all_put (task_if c.args.tables.now.now c.args.site.now) c.args.tables.now.tasks c.loop-at.at _ c.task_count-at-end.ensures.count c.loop-at-test.false c.loop-at.invariant
