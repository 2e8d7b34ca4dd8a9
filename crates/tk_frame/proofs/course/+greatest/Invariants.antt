use Rattle.std.proofs.Common.{length}
use Rattle.tk_frame.proofs.course.+greatest.Given as goal

abbrev pub decreases-greatest : goal.decreases-greatest
decreases-greatest l = length l.numbers.now
