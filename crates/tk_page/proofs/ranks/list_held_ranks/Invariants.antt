use Rattle.std.proofs.Common.{◌≡◌, take}
use Rattle.tk_page.specs.Charges as spec
use Rattle.tk_page.proofs.ranks.list_held_ranks.Given as goal

-- the ranks so far
abbrev pub invariant-loop-place : goal.invariant-loop-place
invariant-loop-place l = l.ranks.items ≡ spec.held_ranks_of (take l.place l.places)
