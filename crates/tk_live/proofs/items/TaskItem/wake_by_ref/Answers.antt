use Rattle.std.proofs.Common.{false, refl}
use Rattle.tk_core.specs.declared.reply.Reply.TheVariants.{Woken}
use Rattle.tk_core.specs.declared.task.call.TaskCall.TheVariants.{WakeRef}
use Rattle.tk_live.specs.declared.items.TaskItem.{TaskItem}
use Rattle.tk_live.proofs.Calling.{leaves_time, ends_none, task_called}
use Rattle.tk_live.proofs.items.TaskItem.wake_by_ref.Goals as goal

pub returns-clause-did : goal.returns-clause-did
returns-clause-did g c =
    let old : TaskItem = c.args.self.now in
    task_called old (record old { callers = c.wake_by_ref.new.self }) c.args.waker (WakeRef c.args.moment false) (Woken c.wake_by_ref.result) c.wake_by_ref.ensures.entry refl c.wake_by_ref.ensures.id refl
    (leaves_time (WakeRef c.args.moment false) old (record old { callers = c.wake_by_ref.new.self }) refl refl refl refl) (λ m e. ends_none (WakeRef c.args.moment false) refl m e)
