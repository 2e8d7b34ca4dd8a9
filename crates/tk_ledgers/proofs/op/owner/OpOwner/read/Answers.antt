use Rattle.std.proofs.Common.{refl}
use Rattle.tk_core.specs.declared.reply.Reply.TheVariants.{Shown}
use Rattle.tk_core.specs.declared.op.call.OpCall.TheVariants.{Read}
use Rattle.tk_ledgers.proofs.PollLemmas.{kept}
use Rattle.tk_ledgers.proofs.OpPollLemmas.{op_polls}
use Rattle.tk_ledgers.proofs.op.owner.OpOwner.read.Goals as goal

pub invariant_of-self : goal.invariant_of-self
invariant_of-self g c = kept op_polls c.self.inside.handle.view Read (Shown c.read.result) c.read.new.self.view c.read.ensures.entry c.read.ensures.role (refl, refl) c.self.inside.polling c.self.invariant
