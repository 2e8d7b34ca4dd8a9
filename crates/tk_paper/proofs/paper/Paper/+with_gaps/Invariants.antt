use Rattle.std.proofs.Common.{length}
use Rattle.tk_paper.proofs.paper.Paper.+with_gaps.Given as goal

abbrev pub decreases-with_gaps : goal.decreases-with_gaps
decreases-with_gaps l = length l.digits.now
