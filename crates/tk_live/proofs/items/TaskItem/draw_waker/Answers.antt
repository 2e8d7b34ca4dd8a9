use Rattle.std.proofs.Common.{ap, refl}
use Rattle.tk_core.specs.declared.reply.Refusal.{Refusal}
use Rattle.tk_core.specs.declared.reply.Refusal.TheVariants.{HandlesSpent}
use Rattle.tk_core.specs.declared.reply.Reply.TheVariants.{Number}
use Rattle.tk_core.specs.declared.task.call.TaskCall.TheVariants.{CloneWaker}
use Rattle.tk_core.specs.TaskMeaning.{task_meaning}
use Rattle.tk_live.specs.declared.items.TaskItem.{TaskItem}
use Rattle.tk_script.specs.declared.stop.Stop.TheVariants.{Call}
use Rattle.tk_live.proofs.Calling.{draws, is_same_task, is_reply}
use Rattle.tk_live.proofs.items.TaskItem.draw_waker.Goals as goal

pub returns-in-Ok-clause-same : goal.returns-in-Ok-clause-same
returns-in-Ok-clause-same g c =
    let old : TaskItem = c.args.self.now in
    is_same_task old (record old { callers = c.clone_waker.new.self }) c.args.by CloneWaker (Number c.in-Ok.waker) c.in-Ok.ensures.ok refl c.clone_waker.ensures.id c.clone_waker.ensures.ledger refl

pub returns-in-Ok-clause-ok : goal.returns-in-Ok-clause-ok
returns-in-Ok-clause-ok g c =
    let old : TaskItem = c.args.self.now in
    draws old (record old { callers = c.clone_waker.new.self }) c.args.by c.in-Ok.waker c.in-Ok.ensures.ok c.clone_waker.ensures.id c.clone_waker.ensures.ledger refl refl refl

pub returns-in-Err-clause-err : goal.returns-in-Err-clause-err
returns-in-Err-clause-err g c = (
  ap (λ (r : Refusal). Call r) c.in-Err.ensures.err.0,
  λ n p i. is_reply task_meaning c.args.self.now.callers.token c.clone_waker.new.self.token c.args.by CloneWaker HandlesSpent p.opening c.in-Err.ensures.err.1 i.called.opened,
)
