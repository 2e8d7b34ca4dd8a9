use Rattle.std.proofs.Common.{refl, ◌∙◌}
use Rattle.tk_core.specs.declared.reply.Refusal.TheVariants.{HandlesSpent}
use Rattle.tk_core.specs.declared.task.call.TaskCall.TheVariants.{CloneWaker}
use Rattle.tk_ledgers.specs.Handles.{made_by}
use Rattle.tk_ledgers.proofs.HandLemmas.{draw_keeps}
use Rattle.tk_ledgers.proofs.TaskPollLemmas.{task_polls}
use Rattle.tk_ledgers.proofs.task.callers.TaskCallers.clone_waker.Goals as goal

pub invariant_of-self : goal.invariant_of-self
invariant_of-self g c =
    draw_keeps task_polls (made_by CloneWaker) c.self.inside.callers c.draw_as.new.self c.draw_as.ensures.hand c.args.by CloneWaker c.draw_as.result HandlesSpent c.draw_as.ensures.ok c.draw_as.ensures.err refl ∙ c.self.invariant
