use Rattle.std.proofs.Common.{ap, ◌∙◌}
use Rattle.tk_cell.specs.Views.{Known}
use Rattle.tk_ledgers.proofs.PollLemmas.{none_yet}
use Rattle.tk_ledgers.proofs.TaskPollLemmas.{task_polls}
use Rattle.tk_ledgers.proofs.task.owner.TaskOwner.with_opening.Goals as goal

pub invariant_of-result : goal.invariant_of-result
invariant_of-result g c = (none_yet task_polls c.new-2.result.view (ap (λ (t : Known _ _ _). t.view.seen) (c.new-2.ensures ∙ c.in_ok-ledger.ensures)), tt)
