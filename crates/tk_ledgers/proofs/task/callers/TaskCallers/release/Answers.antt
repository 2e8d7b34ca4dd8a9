use Rattle.std.proofs.Common.{refl, ◌∙◌}
use Rattle.tk_core.specs.declared.reply.Reply.TheVariants.{Done}
use Rattle.tk_core.specs.declared.task.call.TaskCall.TheVariants.{CloneWaker, Release}
use Rattle.tk_ledgers.specs.Handles.{made_by}
use Rattle.tk_ledgers.proofs.HandLemmas.{quiet_keeps}
use Rattle.tk_ledgers.proofs.TaskPollLemmas.{task_polls}
use Rattle.tk_ledgers.proofs.task.callers.TaskCallers.release.Goals as goal

pub invariant_of-self : goal.invariant_of-self
invariant_of-self g c =
    quiet_keeps task_polls (made_by CloneWaker) c.self.inside.callers.view c.done_as.ensures.hand c.args.waker Release Done c.done_as.new.self.view c.done_as.ensures.entry.made refl ∙ c.self.invariant
