use Rattle.std.proofs.Common.{length}
use Rattle.tk_frame.proofs.polled.+put_attrs.Given as goal

abbrev pub decreases-put_attrs : goal.decreases-put_attrs
decreases-put_attrs l = length l.attrs.now
