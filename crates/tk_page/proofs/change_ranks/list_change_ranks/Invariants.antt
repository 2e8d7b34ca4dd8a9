use Rattle.std.proofs.Common.{◌≡◌, take}
use Rattle.tk_page.specs.ChangeRanks as spec
use Rattle.tk_page.proofs.change_ranks.list_change_ranks.Given as goal

-- the ranks so far
abbrev pub invariant-loop-place : goal.invariant-loop-place
invariant-loop-place l = l.ranks.items ≡ spec.change_ranks_of l.spans (take l.place l.places)
