use Rattle.std.proofs.Common.{refl}
use Rattle.tk_core.specs.declared.reply.Reply.TheVariants.{Done}
use Rattle.tk_core.specs.declared.task.call.TaskCall.TheVariants.{Release}
use Rattle.tk_live.specs.declared.items.TaskItem.{TaskItem}
use Rattle.tk_live.proofs.Calling.{leaves_time, ends_none, task_called, is_spent}
use Rattle.tk_live.proofs.items.TaskItem.release.Goals as goal

pub returns-clause-spent : goal.returns-clause-spent
returns-clause-spent g c =
    let old : TaskItem = c.args.self.now in
    is_spent old (record old { callers = c.release.new.self }) c.args.waker Release Done c.release.ensures.entry c.release.ensures.id c.release.ensures.ledger refl

pub returns-clause-did : goal.returns-clause-did
returns-clause-did g c =
    let old : TaskItem = c.args.self.now in
    task_called old (record old { callers = c.release.new.self }) c.args.waker Release Done c.release.ensures.entry refl c.release.ensures.id refl
    (leaves_time Release old (record old { callers = c.release.new.self }) refl refl refl refl) (λ m e. ends_none Release refl m e)
