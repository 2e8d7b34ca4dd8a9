use Rattle.std.proofs.Common.{◌≡◌, ◌-◌, ℕ, get_or, length}
use Rattle.tk_page.proofs.blame.grow.Given as goal

-- the courses so far say the same
abbrev pub invariant-loop-count : goal.invariant-loop-count
invariant-loop-count l = record {
  long : l.count ≡ length l.courses.items;
  same : (i : ℕ) → get_or l.courses.items i l.none ≡ get_or l.initial.courses.items i l.none;
}

abbrev pub decreases-loop-count : goal.decreases-loop-count
decreases-loop-count l = l.len - l.count
