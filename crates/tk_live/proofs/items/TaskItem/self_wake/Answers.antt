use Rattle.std.proofs.Common.{◌≡◌, Bool, true, Some, None, refl, sym, ◌∙◌, subst}
use Rattle.tk_core.specs.declared.reply.Reply.TheVariants.{Woken}
use Rattle.tk_core.specs.declared.task.call.TaskCall.TheVariants.{PollEnd, WakeRef}
use Rattle.tk_ledgers.specs.Tasks.{TaskSight}
use Rattle.tk_live.specs.Items.{IsTask}
use Rattle.tk_live.specs.Stops.{while_polled}
use Rattle.tk_live.specs.declared.items.TaskItem.{TaskItem}
use Rattle.tk_live.proofs.Calling.{task_called, task_told, busy_didnt, leaves_time, ends_none}
use Rattle.tk_live.proofs.items.TaskItem.self_wake.Goals as goal

pub returns-in-Ok-clause-did : goal.returns-in-Ok-clause-did
returns-in-Ok-clause-did g c n p i =
    let old : TaskItem = c.args.self.now in
    let call = WakeRef c.args.moment true in
    let told = task_told old c.self_wake.new.self.token 0 call (Woken c.in-Ok._found) c.in-Ok.ensures.ok c.requires n p i in (
      subst (λ (b : Bool). while_polled (Some b) ≡ None) (c.in-Ok.ensures.exact ∙ told.0) refl,
      task_called old (record old { callers = c.self_wake.new.self }) 0 call (Woken c.in-Ok._found) c.in-Ok.ensures.ok refl c.self_wake.ensures.id refl
          (leaves_time call old (record old { callers = c.self_wake.new.self }) refl refl refl refl) (λ m e. ends_none call refl m e) n p i,
    )

pub returns-in-Err-end_poll-clause-did : goal.returns-in-Err-end_poll-clause-did
returns-in-Err-end_poll-clause-did g c n p i =
    let old : TaskItem = c.args.self.now in
    let left : TaskItem = record old { callers = c.self_wake.new.self } in
    let kept : IsTask n p left = subst (λ (h : TaskSight). IsTask n p (record old { callers = h })) (sym c.in-Err.ensures.err.1) i in
    let err = c.in-Err-end_poll.ensures.err in
    busy_didnt left (record old { callers = c.end_poll.new.self }) (PollEnd c.args.moment) c.requires c.in-Err-end_poll.refusal err.0 err.1 n p kept
