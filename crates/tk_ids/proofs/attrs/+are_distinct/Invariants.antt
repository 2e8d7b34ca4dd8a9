use Rattle.std.proofs.Common.{length}
use Rattle.tk_ids.proofs.attrs.+are_distinct.Given as goal

-- what is left of the list
abbrev pub decreases-are_distinct : goal.decreases-are_distinct
decreases-are_distinct g l = length l.list.now
