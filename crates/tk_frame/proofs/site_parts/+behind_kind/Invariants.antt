use Rattle.std.proofs.Common.{length}
use Rattle.tk_frame.proofs.site_parts.+behind_kind.Given as goal

abbrev pub decreases-behind_kind : goal.decreases-behind_kind
decreases-behind_kind l = length l.site.now
