use Rattle.std.proofs.Common.{length}
use Rattle.tk_frame.proofs.places.+is_greater.Given as goal

abbrev pub decreases-is_greater : goal.decreases-is_greater
decreases-is_greater l = length l.a.now
