use Rattle.std.proofs.Common.{◌≡◌, take, map}
use Rattle.tk_odd.proofs.members.moved_of.Given as goal

-- those so far
abbrev pub invariant-loop-place : goal.invariant-loop-place
invariant-loop-place l = l.list.items ≡ map (λ e. e.1.moved) (take l.place l.members.entries)
