use Rattle.std.proofs.Common.{length}
use Rattle.tk_page.proofs.resources.+put_each_attr.Given as goal

abbrev pub decreases-put_each_attr : goal.decreases-put_each_attr
decreases-put_each_attr l = length l.attrs.now
