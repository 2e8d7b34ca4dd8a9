use Rattle.std.proofs.Common.{false, refl, inr}
use Rattle.tk_core.specs.declared.reply.Reply.TheVariants.{Woken}
use Rattle.tk_core.specs.declared.task.call.TaskCall.TheVariants.{WakeRef}
use Rattle.tk_core.specs.TaskMeaning.{task_meaning}
use Rattle.tk_ledgers.proofs.CallersLemmas.{calls_keep_live}
use Rattle.tk_ledgers_tests.proofs.tests.callers.wakes_twice.Goals as goal

pub wake-by_value-requires : goal.wake-by_value-requires
wake-by_value-requires g c = (calls_keep_live task_meaning c.args.callers.now.token c.wake_by_ref-by_reference.new.self.token c.args.waker (WakeRef 200 false) (Woken c.wake_by_ref-by_reference.result) c.wake_by_ref-by_reference.ensures.entry).1 c.args.waker c.requires (inr refl)
