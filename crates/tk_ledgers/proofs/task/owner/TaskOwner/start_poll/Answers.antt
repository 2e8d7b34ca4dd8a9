use Rattle.std.proofs.Common.{◌≡◌, true, false, not, refl, ap, sym, subst, ◌∙◌}
use Rattle.tk_core.specs.declared.reply.Refusal.{Refusal}
use Rattle.tk_core.specs.declared.reply.Refusal.TheVariants.{AlreadyPolling}
use Rattle.tk_core.specs.declared.reply.Reply.TheVariants.{Refused}
use Rattle.tk_core.specs.declared.task.call.TaskCall.TheVariants.{PollStart}
use Rattle.tk_core.specs.TaskMeaning.{task_meaning}
use Rattle.tk_cell.specs.Calls.{Calls}
use Rattle.tk_ledgers.specs.Tasks.{TaskSight, is_polling}
use Rattle.tk_ledgers.proofs.PollLemmas.{started, unstarted, kept_refused}
use Rattle.tk_ledgers.proofs.TaskPollLemmas.{task_polls}
use Rattle.tk_ledgers.proofs.TimedLemmas.{times_kept_refused, times_started}
use Rattle.tk_ledgers.proofs.task.owner.TaskOwner.start_poll.Goals as goal

pub invariant_of-self : goal.invariant_of-self
invariant_of-self g c = (
  (started task_polls c.self.inside.handle.view c.args.moment c.attempt.new.self.view c.in-Ok.ensures.ok c.attempt.ensures.role c.self.inside.polling c.self.invariant.0).1,
  times_started c.self.inside.id c.self.inside.handle.view c.args.moment c.attempt.new.self.view c.in-Ok.ensures.ok c.attempt.ensures.role c.self.inside.timed c.start.new.timed c.start.ensures c.self.invariant.1,
)

pub invariant_of-self-in-Err : goal.invariant_of-self-in-Err
invariant_of-self-in-Err g c = (
  kept_refused task_polls c.self.inside.handle.view (PollStart c.args.moment) (Refused c.in-Err.refusal) c.attempt.new.self.view c.in-Err.ensures.err c.attempt.ensures.role refl c.self.inside.polling c.self.invariant.0,
  times_kept_refused c.self.inside.id c.self.inside.handle.view (PollStart c.args.moment) (Refused c.in-Err.refusal) c.attempt.new.self.view c.in-Err.ensures.err c.attempt.ensures.role refl c.self.inside.timed c.self.invariant.1,
)

pub returns-in-Ok-clause-exact : goal.returns-in-Ok-clause-exact
returns-in-Ok-clause-exact g c =
    let before = (started task_polls c.self.inside.handle.view c.args.moment c.attempt.new.self.view c.in-Ok.ensures.ok c.attempt.ensures.role c.self.inside.polling c.self.invariant.0).0 in
    subst (λ (h : TaskSight). true ≡ not (is_polling h)) c.self.view_is (ap (λ b. not b) (sym (c.self.invariant.0.0 ∙ before)))

pub returns-in-Err-clause-exact : goal.returns-in-Err-clause-exact
returns-in-Err-clause-exact g c =
    let before = (unstarted task_polls c.self.inside.handle.view c.args.moment c.in-Err.refusal c.attempt.new.self.view c.in-Err.ensures.err c.attempt.ensures.role c.self.inside.polling c.self.invariant.0).0 in
    subst (λ (h : TaskSight). false ≡ not (is_polling h)) c.self.view_is (ap (λ b. not b) (sym (c.self.invariant.0.0 ∙ before)))

pub returns-in-Err-clause-already_polling : goal.returns-in-Err-clause-already_polling
returns-in-Err-clause-already_polling g c =
    let refusal = (unstarted task_polls c.self.inside.handle.view c.args.moment c.in-Err.refusal c.attempt.new.self.view c.in-Err.ensures.err c.attempt.ensures.role c.self.inside.polling c.self.invariant.0).1 in (
      refusal,
      subst (λ (h : TaskSight). Calls task_meaning h.token.view (PollStart c.args.moment) (Refused AlreadyPolling) c.attempt.new.self.view) c.self.view_is
          (subst (λ (r : Refusal). Calls task_meaning c.self.inside.handle.view (PollStart c.args.moment) (Refused r) c.attempt.new.self.view) refusal c.in-Err.ensures.err),
    )
