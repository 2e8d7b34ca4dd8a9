use Rattle.std.proofs.Common.{◌≡◌, true, false, refl, sym, subst, ◌∙◌}
use Rattle.tk_core.specs.declared.reply.Refusal.{Refusal}
use Rattle.tk_core.specs.declared.reply.Refusal.TheVariants.{NotPolling}
use Rattle.tk_core.specs.declared.reply.Reply.TheVariants.{Refused}
use Rattle.tk_core.specs.declared.task.call.TaskCall.TheVariants.{PollEnd}
use Rattle.tk_core.specs.TaskMeaning.{task_meaning}
use Rattle.tk_cell.specs.Calls.{Calls}
use Rattle.tk_ledgers.specs.Tasks.{TaskSight, is_polling}
use Rattle.tk_ledgers.proofs.PollLemmas.{ended, unended, kept_refused}
use Rattle.tk_ledgers.proofs.TaskPollLemmas.{task_polls}
use Rattle.tk_ledgers.proofs.TimedLemmas.{times_kept_refused, times_ended_by}
use Rattle.tk_ledgers.proofs.task.owner.TaskOwner.end_poll.Goals as goal

pub invariant_of-self : goal.invariant_of-self
invariant_of-self g c = (
  (ended task_polls c.self.inside.handle.view c.args.moment c.attempt.new.self.view c.in-Ok.ensures.ok c.attempt.ensures.role c.self.inside.polling c.self.invariant.0).1,
  times_ended_by c.self.inside.id c.self.inside.handle.view c.args.moment c.attempt.new.self.view c.in-Ok.ensures.ok c.attempt.ensures.role c.self.inside.timed c.end.new.timed c.end.ensures.ends c.self.invariant.1,
)

pub invariant_of-self-in-Err : goal.invariant_of-self-in-Err
invariant_of-self-in-Err g c = (
  kept_refused task_polls c.self.inside.handle.view (PollEnd c.args.moment) (Refused c.in-Err.refusal) c.attempt.new.self.view c.in-Err.ensures.err c.attempt.ensures.role refl c.self.inside.polling c.self.invariant.0,
  times_kept_refused c.self.inside.id c.self.inside.handle.view (PollEnd c.args.moment) (Refused c.in-Err.refusal) c.attempt.new.self.view c.in-Err.ensures.err c.attempt.ensures.role refl c.self.inside.timed c.self.invariant.1,
)

pub returns-in-Ok-clause-exact : goal.returns-in-Ok-clause-exact
returns-in-Ok-clause-exact g c =
    let before = (ended task_polls c.self.inside.handle.view c.args.moment c.attempt.new.self.view c.in-Ok.ensures.ok c.attempt.ensures.role c.self.inside.polling c.self.invariant.0).0 in
    subst (λ (h : TaskSight). true ≡ is_polling h) c.self.view_is (sym (c.self.invariant.0.0 ∙ before))

pub returns-in-Err-clause-exact : goal.returns-in-Err-clause-exact
returns-in-Err-clause-exact g c =
    let before = (unended task_polls c.self.inside.handle.view c.args.moment c.in-Err.refusal c.attempt.new.self.view c.in-Err.ensures.err c.attempt.ensures.role c.self.inside.polling c.self.invariant.0).0 in
    subst (λ (h : TaskSight). false ≡ is_polling h) c.self.view_is (sym (c.self.invariant.0.0 ∙ before))

pub returns-in-Err-clause-not_polling : goal.returns-in-Err-clause-not_polling
returns-in-Err-clause-not_polling g c =
    let refusal = (unended task_polls c.self.inside.handle.view c.args.moment c.in-Err.refusal c.attempt.new.self.view c.in-Err.ensures.err c.attempt.ensures.role c.self.inside.polling c.self.invariant.0).1 in (
      refusal,
      subst (λ (h : TaskSight). Calls task_meaning h.token.view (PollEnd c.args.moment) (Refused NotPolling) c.attempt.new.self.view) c.self.view_is
          (subst (λ (r : Refusal). Calls task_meaning c.self.inside.handle.view (PollEnd c.args.moment) (Refused r) c.attempt.new.self.view) refusal c.in-Err.ensures.err),
    )
