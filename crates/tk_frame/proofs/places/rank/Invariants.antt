use Rattle.std.proofs.Common.{◌≡◌, ◌+◌, ◌≤◌, drop, length, map}
use Rattle.tk_frame.specs.Places.{row_of, rank}
use Rattle.tk_frame.proofs.places.rank.Given as goal

-- it goes after those so far
abbrev pub invariant-loop-i : goal.invariant-loop-i
invariant-loop-i l = record {
  within : l.i ≤ length l.list;
  after : rank (map row_of l.list) l.figures ≡ l.i + rank (map row_of (drop l.i l.list)) l.figures;
}
