use Rattle.std.proofs.Common.{false, refl, ◌∙◌}
use Rattle.tk_core.specs.declared.reply.Reply.TheVariants.{Woken}
use Rattle.tk_core.specs.declared.task.call.TaskCall.TheVariants.{CloneWaker, WakeVal}
use Rattle.tk_ledgers.specs.Handles.{made_by}
use Rattle.tk_ledgers.proofs.HandLemmas.{quiet_keeps}
use Rattle.tk_ledgers.proofs.TaskPollLemmas.{task_polls}
use Rattle.tk_ledgers.proofs.task.callers.TaskCallers.wake.Goals as goal

pub invariant_of-self : goal.invariant_of-self
invariant_of-self g c =
    quiet_keeps task_polls (made_by CloneWaker) c.self.inside.callers.view c.wake_as.ensures.hand c.args.waker (WakeVal c.args.moment false) (Woken c.wake_as.result) c.wake_as.new.self.view c.wake_as.ensures.entry.made refl ∙ c.self.invariant
