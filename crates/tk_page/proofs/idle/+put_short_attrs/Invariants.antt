use Rattle.std.proofs.Common.{length}
use Rattle.tk_page.proofs.idle.+put_short_attrs.Given as goal

abbrev pub decreases-put_short_attrs : goal.decreases-put_short_attrs
decreases-put_short_attrs l = length l.attrs.now
