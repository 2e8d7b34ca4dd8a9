use Rattle.std.proofs.Common.{length}
use Rattle.tk_watch.proofs.notes.+last_old.Given as goal

abbrev pub decreases-last_old : goal.decreases-last_old
decreases-last_old l = length l.notes.now
