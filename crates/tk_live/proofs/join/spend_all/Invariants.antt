use Rattle.std.proofs.Common.{◌≤◌, length}
use Rattle.tk_live.specs.Blocks.{lines_of_both}
use Rattle.tk_live.specs.Runs.{block_of}
use Rattle.tk_live.proofs.Spending.{SpentTo}
use Rattle.tk_live.proofs.join.spend_all.Given as goal

abbrev pub invariant-loop-i : goal.invariant-loop-i
invariant-loop-i l = SpentTo (lines_of_both (block_of l.block)) l.i l.initial.wakers.items l.wakers.items × (l.i ≤ length l.initial.wakers.items)
