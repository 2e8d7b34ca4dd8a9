use Rattle.std.proofs.Common.{◌≡◌, Some, None, false, refl, ◌∙◌, subst}
use Rattle.tk_core.specs.declared.reply.Reply.TheVariants.{Done, Refused}
use Rattle.tk_core.specs.declared.task.call.TaskCall.TheVariants.{CloneWaker, PollEnd}
use Rattle.tk_core.specs.TaskMeaning.{task_meaning}
use Rattle.tk_ledgers.specs.Callers.{CallsAs}
use Rattle.tk_ledgers.specs.Handles.{made_by}
use Rattle.tk_ledgers.specs.Tasks.{TaskSight, owner_refusal}
use Rattle.tk_ledgers.proofs.HandLemmas.{was_done, was_refused, polls, refused_keeps, answered}
use Rattle.tk_ledgers.proofs.TaskPollLemmas.{task_polls, refusal_by, poll_answer}
use Rattle.tk_ledgers.proofs.task.callers.TaskCallers.end_poll.Goals as goal

pub invariant_of-self : goal.invariant_of-self
invariant_of-self g c =
    polls task_polls (made_by CloneWaker) c.self.inside.callers.view c.attempt_as.ensures.hand 0 (PollEnd c.args.moment) Done c.attempt_as.new.self.view c.in-Ok.ensures.ok.made refl false refl refl

pub invariant_of-self-in-Err : goal.invariant_of-self-in-Err
invariant_of-self-in-Err g c =
    refused_keeps task_polls (made_by CloneWaker) c.self.inside.callers.view c.attempt_as.ensures.hand 0 (PollEnd c.args.moment) (Refused c.in-Err.refusal) c.attempt_as.new.self.view c.in-Err.ensures.err.made refl refl ∙ c.self.invariant

pub returns-in-Ok-clause-ok : goal.returns-in-Ok-clause-ok
returns-in-Ok-clause-ok g c =
    let call = PollEnd c.args.moment in
    let is = answered task_polls (made_by CloneWaker) c.self.inside.callers.view c.attempt_as.ensures.hand 0 call Done c.attempt_as.new.self.view c.in-Ok.ensures.ok.made refl (refusal_by call) (poll_answer call refl) in
    subst (λ (h : TaskSight). (owner_refusal h (PollEnd c.args.moment) ≡ None) × CallsAs task_meaning h.token 0 (PollEnd c.args.moment) Done c.attempt_as.new.self) c.self.view_is
    (was_done _ is, c.in-Ok.ensures.ok)

pub returns-in-Err-clause-err : goal.returns-in-Err-clause-err
returns-in-Err-clause-err g c =
    let call = PollEnd c.args.moment in
    let is = answered task_polls (made_by CloneWaker) c.self.inside.callers.view c.attempt_as.ensures.hand 0 call (Refused c.in-Err.refusal) c.attempt_as.new.self.view c.in-Err.ensures.err.made refl (refusal_by call) (poll_answer call refl) in
    subst (λ (h : TaskSight). (owner_refusal h (PollEnd c.args.moment) ≡ Some c.in-Err.refusal) × CallsAs task_meaning h.token 0 (PollEnd c.args.moment) (Refused c.in-Err.refusal) c.attempt_as.new.self) c.self.view_is
    (was_refused _ c.in-Err.refusal is, c.in-Err.ensures.err)
