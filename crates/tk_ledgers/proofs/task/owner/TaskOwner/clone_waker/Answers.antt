use Rattle.std.proofs.Common.{refl}
use Rattle.tk_core.specs.declared.task.call.TaskCall.TheVariants.{CloneWaker}
use Rattle.tk_ledgers.proofs.PollLemmas.{kept_drawn, kept_not_drawn}
use Rattle.tk_ledgers.proofs.TaskPollLemmas.{task_polls}
use Rattle.tk_ledgers.proofs.TimedLemmas.{times_drawn, times_not_drawn}
use Rattle.tk_ledgers.proofs.task.owner.TaskOwner.clone_waker.Goals as goal

pub invariant_of-self : goal.invariant_of-self
invariant_of-self g c = (
  kept_not_drawn task_polls c.self.inside.handle CloneWaker c.in_err-handle.field-0.0 c.draw.new.self c.in_err-handle.ensures.err c.draw.ensures.role c.self.inside.polling c.self.invariant.0,
  times_not_drawn c.self.inside.id c.self.inside.handle CloneWaker c.in_err-handle.field-0.0 c.draw.new.self c.in_err-handle.ensures.err c.draw.ensures.role c.self.inside.timed c.self.invariant.1,
)

pub invariant_of-self-2 : goal.invariant_of-self-2
invariant_of-self-2 g c = (
  kept_drawn task_polls c.self.inside.handle CloneWaker c.draw.new.self c.in_ok-handle.handle c.in_ok-handle.ensures.ok c.draw.ensures.role (refl, refl) c.self.inside.polling c.self.invariant.0,
  times_drawn c.self.inside.id c.self.inside.handle CloneWaker c.draw.new.self c.in_ok-handle.handle c.in_ok-handle.ensures.ok c.draw.ensures.role (refl, refl) c.self.inside.timed c.self.invariant.1,
)
