use Rattle.std.proofs.Common.{refl}
use Rattle.tk_core.specs.declared.reply.Reply.TheVariants.{Shown}
use Rattle.tk_core.specs.declared.task.call.TaskCall.TheVariants.{Read}
use Rattle.tk_ledgers.proofs.PollLemmas.{kept}
use Rattle.tk_ledgers.proofs.TaskPollLemmas.{task_polls}
use Rattle.tk_ledgers.proofs.TimedLemmas.{times_kept_by}
use Rattle.tk_ledgers.proofs.task.owner.TaskOwner.read.Goals as goal

pub invariant_of-self : goal.invariant_of-self
invariant_of-self g c = (
  kept task_polls c.self.inside.handle.view Read (Shown c.read.result) c.read.new.self.view c.read.ensures.entry c.read.ensures.role (refl, refl) c.self.inside.polling c.self.invariant.0,
  times_kept_by c.self.inside.id c.self.inside.handle.view Read (Shown c.read.result) c.read.new.self.view c.read.ensures.entry c.read.ensures.role (refl, refl) c.self.inside.timed c.self.invariant.1,
)
