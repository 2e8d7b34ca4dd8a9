use Rattle.std.proofs.Common.{refl, ◌∙◌}
use Rattle.tk_core.specs.declared.task.call.TaskCall.TheVariants.{CloneWaker}
use Rattle.tk_core.specs.TaskMeaning.{task_meaning}
use Rattle.tk_cell.proofs.RoleLemmas.{made_calls}
use Rattle.tk_base_tests.proofs.tests.cells.threads.wake_often.Goals as goal

pub loop-moment-preserved : goal.loop-moment-preserved
loop-moment-preserved g c = record {
  own = c.call.ensures.own ∙ c.loop-moment.invariant.own;
  waker = made_calls task_meaning _ _ _ _ c.call.ensures.entry CloneWaker refl c.loop-moment.invariant.waker;
}
