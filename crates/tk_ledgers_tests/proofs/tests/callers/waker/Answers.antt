use Rattle.std.proofs.Common.{refl}
use Rattle.tk_core.specs.declared.reply.Reply.TheVariants.{Number}
use Rattle.tk_core.specs.declared.task.call.TaskCall.TheVariants.{CloneWaker}
use Rattle.tk_core.specs.TaskMeaning.{task_meaning}
use Rattle.tk_ledgers.proofs.CallersLemmas.{calls_keep_live}
use Rattle.tk_ledgers_tests.proofs.tests.callers.waker.Goals as goal

pub returns-in-Ok-clause-live : goal.returns-in-Ok-clause-live
returns-in-Ok-clause-live g c = (calls_keep_live task_meaning c.args.callers.now.token c.clone_waker.new.self.token 0 CloneWaker (Number c.in-Ok.waker) c.in-Ok.ensures.ok).0 c.in-Ok.waker refl
