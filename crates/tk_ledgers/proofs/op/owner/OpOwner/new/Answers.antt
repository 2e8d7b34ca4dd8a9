use Rattle.std.proofs.Common.{ap, ◌∙◌}
use Rattle.tk_cell.specs.Views.{Known}
use Rattle.tk_ledgers.proofs.PollLemmas.{none_yet}
use Rattle.tk_ledgers.proofs.OpPollLemmas.{op_polls}
use Rattle.tk_ledgers.proofs.op.owner.OpOwner.new.Goals as goal

pub invariant_of-result : goal.invariant_of-result
invariant_of-result g c = none_yet op_polls c.new-2.result.view (ap (λ (t : Known _ _ _). t.view.seen) (c.new-2.ensures ∙ c.in_ok-ledger.ensures))
