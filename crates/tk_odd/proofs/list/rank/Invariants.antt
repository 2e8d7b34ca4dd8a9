use Rattle.std.proofs.Common.{◌≡◌, ◌+◌, ◌≤◌, drop, length, map}
use Rattle.tk_odd.specs.Findings.{placed, rank}
use Rattle.tk_odd.proofs.list.rank.Given as goal

-- it goes after those so far
abbrev pub invariant-loop-i : goal.invariant-loop-i
invariant-loop-i l = record {
  within : l.i ≤ length l.list;
  after : rank (map placed l.list) l.finding ≡ l.i + rank (map placed (drop l.i l.list)) l.finding;
}
