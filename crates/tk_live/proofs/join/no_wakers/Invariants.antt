use Rattle.std.proofs.Common.{◌≡◌, ◌≤◌}
use Rattle.std.specs.Prelude.{replicate, None}
use Rattle.tk_live.proofs.join.no_wakers.Given as goal

abbrev pub invariant-loop-i : goal.invariant-loop-i
invariant-loop-i l = (l.places.items ≡ replicate l.i None) × (l.i ≤ l.count)
