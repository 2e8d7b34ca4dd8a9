use Rattle.std.proofs.Common.{false, refl}
use Rattle.tk_core.specs.declared.reply.Reply.TheVariants.{Woken}
use Rattle.tk_core.specs.declared.task.call.TaskCall.TheVariants.{WakeVal}
use Rattle.tk_live.specs.declared.items.TaskItem.{TaskItem}
use Rattle.tk_live.proofs.Calling.{leaves_time, ends_none, task_called, is_spent}
use Rattle.tk_live.proofs.items.TaskItem.wake.Goals as goal

pub returns-clause-spent : goal.returns-clause-spent
returns-clause-spent g c =
    let old : TaskItem = c.args.self.now in
    is_spent old (record old { callers = c.wake.new.self }) c.args.waker (WakeVal c.args.moment false) (Woken c.wake.result) c.wake.ensures.entry c.wake.ensures.id c.wake.ensures.ledger refl

pub returns-clause-did : goal.returns-clause-did
returns-clause-did g c =
    let old : TaskItem = c.args.self.now in
    task_called old (record old { callers = c.wake.new.self }) c.args.waker (WakeVal c.args.moment false) (Woken c.wake.result) c.wake.ensures.entry refl c.wake.ensures.id refl
    (leaves_time (WakeVal c.args.moment false) old (record old { callers = c.wake.new.self }) refl refl refl refl) (λ m e. ends_none (WakeVal c.args.moment false) refl m e)
