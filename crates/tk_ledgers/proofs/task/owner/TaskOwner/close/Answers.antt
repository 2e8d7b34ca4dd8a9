use Rattle.std.proofs.Common.{◌≡◌, true, false, not, refl, ap, sym, subst, ◌∙◌}
use Rattle.tk_core.specs.declared.reply.Refusal.{Refusal}
use Rattle.tk_core.specs.declared.reply.Refusal.TheVariants.{AlreadyPolling}
use Rattle.tk_core.specs.declared.reply.Reply.{Reply}
use Rattle.tk_core.specs.declared.reply.Reply.TheVariants.{Done, Refused}
use Rattle.tk_core.specs.declared.task.row.TaskRow.{TaskRow}
use Rattle.tk_core.specs.declared.task.call.TaskCall.{TaskCall}
use Rattle.tk_core.specs.declared.task.call.TaskCall.TheVariants.{Close}
use Rattle.tk_core.specs.TaskMeaning.{task_meaning}
use Rattle.tk_core.specs.History.{accepted}
use Rattle.tk_core.specs.Fold.{is_accepted}
use Rattle.tk_core.specs.Legal.{own}
use Rattle.tk_cell.specs.Views.{Known}
use Rattle.tk_cell.specs.Calls.{Calls}
use Rattle.tk_ledgers.specs.Handles.{sight_with}
use Rattle.tk_ledgers.specs.Tasks.{TaskSight, is_polling}
use Rattle.tk_ledgers.specs.Times.{known_times, IsTimed}
use Rattle.tk_ledgers.specs.Timed.{KeepsTimes}
use Rattle.tk_ledgers.proofs.PollLemmas.{closed, unclosed, kept_refused}
use Rattle.tk_ledgers.proofs.TaskPollLemmas.{task_polls}
use Rattle.tk_ledgers.proofs.TimedLemmas.{times_kept_by, times_kept_refused, is_timed}
use Rattle.tk_ledgers.proofs.task.owner.TaskOwner.close.Goals as goal

pub invariant_of-result : goal.invariant_of-result
invariant_of-result g c = (
  kept_refused task_polls c.self.inside.handle.view (Close c.args.moment) (Refused c.in-Err.refusal) c.attempt.new.self.view c.in-Err.ensures.err c.attempt.ensures.role refl c.self.inside.polling c.self.invariant.0,
  times_kept_refused c.self.inside.id c.self.inside.handle.view (Close c.args.moment) (Refused c.in-Err.refusal) c.attempt.new.self.view c.in-Err.ensures.err c.attempt.ensures.role refl c.self.inside.timed c.self.invariant.1,
)

pub returns-in-Ok-clause-exact : goal.returns-in-Ok-clause-exact
returns-in-Ok-clause-exact g c =
    let idle = closed task_polls c.self.inside.handle.view c.args.moment c.attempt.new.self.view c.in-Ok.ensures.ok c.attempt.ensures.role c.self.inside.polling c.self.invariant.0 in
    subst (λ (h : TaskSight). true ≡ not (is_polling h)) c.self.view_is (ap (λ b. not b) (sym (c.self.invariant.0.0 ∙ idle)))

pub returns-in-Err-clause-exact : goal.returns-in-Err-clause-exact
returns-in-Err-clause-exact g c =
    let busy = unclosed task_polls c.self.inside.handle.view c.args.moment c.in-Err.refusal c.attempt.new.self.view c.in-Err.ensures.err c.attempt.ensures.role c.self.inside.polling c.self.invariant.0 in
    subst (λ (h : TaskSight). false ≡ not (is_polling h)) c.self.view_is (ap (λ b. not b) (sym (c.self.invariant.0.0 ∙ busy.0)))

pub returns-in-Err-clause-already_polling : goal.returns-in-Err-clause-already_polling
returns-in-Err-clause-already_polling g c =
    let busy = unclosed task_polls c.self.inside.handle.view c.args.moment c.in-Err.refusal c.attempt.new.self.view c.in-Err.ensures.err c.attempt.ensures.role c.self.inside.polling c.self.invariant.0 in (
      busy.1,
      subst (λ (h : TaskSight). Calls task_meaning h.token.view (Close c.args.moment) (Refused AlreadyPolling) c.attempt.new.self.view) c.self.view_is
          (subst (λ (r : Refusal). Calls task_meaning c.self.inside.handle.view (Close c.args.moment) (Refused r) c.attempt.new.self.view) busy.1 c.in-Err.ensures.err),
    )

pub returns-in-Ok-clause-timed : goal.returns-in-Ok-clause-timed
returns-in-Ok-clause-timed g c =
    let i = c.self.inside in
    let kept = times_kept_by i.id i.handle.view (Close c.args.moment) Done c.attempt.new.self.view c.in-Ok.ensures.ok c.attempt.ensures.role (refl, refl) i.timed c.self.invariant.1 in
    let handed = subst (λ (t : Known TaskRow TaskCall (Reply TaskRow)). KeepsTimes i.id (accepted is_accepted (own 0 t.view.seen)) i.timed) (sym c.retire.ensures) kept in
    let shown = is_timed i.id (sight_with i.id c.retire.result (known_times c.retire-times.result)) i.timed c.retire-times.ensures.times handed in
    subst (λ (h : TaskSight). IsTimed h) (sym c.with_times.ensures) shown
