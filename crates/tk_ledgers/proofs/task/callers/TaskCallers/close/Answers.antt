use Rattle.std.proofs.Common.{◌≡◌, Some, None, OnOk, IfErr, refl, ◌∙◌, subst}
use Rattle.tk_core.specs.declared.reply.Reply.TheVariants.{Done, Refused}
use Rattle.tk_core.specs.declared.task.call.TaskCall.TheVariants.{CloneWaker, Close}
use Rattle.tk_core.specs.TaskMeaning.{task_meaning}
use Rattle.tk_ledgers.specs.Callers.{CallsAs}
use Rattle.tk_ledgers.specs.Handles.{made_by}
use Rattle.tk_ledgers.specs.Tasks.{TaskSight, owner_refusal}
use Rattle.tk_ledgers.proofs.HandLemmas.{attempt_keeps, attempt_done, attempt_refused}
use Rattle.tk_ledgers.proofs.TaskPollLemmas.{task_polls, refusal_by, poll_answer}
use Rattle.tk_ledgers.proofs.task.callers.TaskCallers.close.Goals as goal

pub invariant_of-self : goal.invariant_of-self
invariant_of-self g c =
    attempt_keeps task_polls (made_by CloneWaker) c.self.inside.callers c.attempt_as.new.self c.attempt_as.ensures.hand 0 (Close c.args.moment) c.attempt_as.result c.attempt_as.ensures.ok c.attempt_as.ensures.err refl ∙ c.self.invariant

pub returns-clause-ok : goal.returns-clause-ok
returns-clause-ok g c =
    let call = Close c.args.moment in
    subst (λ (h : TaskSight). OnOk c.attempt_as.result ((owner_refusal h (Close c.args.moment) ≡ None) × CallsAs task_meaning h.token 0 (Close c.args.moment) Done c.attempt_as.new.self)) c.self.view_is
    (attempt_done task_polls (made_by CloneWaker) c.self.inside.callers c.attempt_as.new.self c.attempt_as.ensures.hand call (refusal_by call) (poll_answer call refl) c.attempt_as.result c.attempt_as.ensures.ok)

pub returns-clause-err : goal.returns-clause-err
returns-clause-err g c =
    let call = Close c.args.moment in
    subst (λ (h : TaskSight). IfErr c.attempt_as.result (λ r. (owner_refusal h (Close c.args.moment) ≡ Some r) × CallsAs task_meaning h.token 0 (Close c.args.moment) (Refused r) c.attempt_as.new.self)) c.self.view_is
    (attempt_refused task_polls (made_by CloneWaker) c.self.inside.callers c.attempt_as.new.self c.attempt_as.ensures.hand call (refusal_by call) (poll_answer call refl) c.attempt_as.result c.attempt_as.ensures.err)
