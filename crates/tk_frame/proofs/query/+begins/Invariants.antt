use Rattle.std.proofs.Common.{length}
use Rattle.tk_frame.proofs.query.+begins.Given as goal

abbrev pub decreases-begins : goal.decreases-begins
decreases-begins l = length l.part.now
