use Rattle.std.proofs.Common.{refl}
use Rattle.tk_core.specs.declared.op.call.OpCall.TheVariants.{Enlist}
use Rattle.tk_ledgers.proofs.PollLemmas.{kept_drawn, kept_not_drawn}
use Rattle.tk_ledgers.proofs.OpPollLemmas.{op_polls}
use Rattle.tk_ledgers.proofs.op.owner.OpOwner.inspect.Goals as goal

pub invariant_of-self : goal.invariant_of-self
invariant_of-self g c = kept_not_drawn op_polls c.self.inside.handle Enlist c.in_err-handle.field-0.0 c.draw.new.self c.in_err-handle.ensures.err c.draw.ensures.role c.self.inside.polling c.self.invariant

pub invariant_of-self-2 : goal.invariant_of-self-2
invariant_of-self-2 g c = kept_drawn op_polls c.self.inside.handle Enlist c.draw.new.self c.in_ok-handle.handle c.in_ok-handle.ensures.ok c.draw.ensures.role (refl, refl) c.self.inside.polling c.self.invariant
