use Rattle.std.proofs.Common.{refl, ◌∙◌}
use Rattle.tk_core.specs.declared.op.call.OpCall.TheVariants.{Attr, Enlist}
use Rattle.tk_ledgers.specs.Handles.{made_by}
use Rattle.tk_ledgers.proofs.HandLemmas.{attempt_keeps}
use Rattle.tk_ledgers.proofs.OpPollLemmas.{op_polls}
use Rattle.tk_ledgers.proofs.op.callers.OpCallers.change.Goals as goal

pub invariant_of-self : goal.invariant_of-self
invariant_of-self g c =
    attempt_keeps op_polls (made_by Enlist) c.self.inside.callers c.attempt_as.new.self c.attempt_as.ensures.hand 0 (Attr c.args.index c.args.op) c.attempt_as.result c.attempt_as.ensures.ok c.attempt_as.ensures.err refl ∙ c.self.invariant
