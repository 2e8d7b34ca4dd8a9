use Rattle.std.proofs.Common.{ℕ, ◌+◌, ◌-◌, ◌≤◌, List, ◌++◌, length, take}
use Rattle.tk_reading.specs.Shown.{timed_of}
use Rattle.tk_reading.specs.Taken.{HasTaken}
use Rattle.tk_reading.proofs.reading.feed_lines.Given as goal

-- the lines so far were taken, and watched
abbrev pub invariant-loop-at : goal.invariant-loop-at
invariant-loop-at g l = record {
  within : l.at ≤ length l.piece;
  few : l.sum ≤ l.lines + l.at;
  taken : (from : g.row.O.Denot) (front : List ℕ) → HasTaken front l.lines l.initial.client → g.O.Observes.saw from (timed_of front) l.initial.observer
      → HasTaken (front ++ take l.at l.piece) l.sum l.client × g.O.Observes.saw from (timed_of (front ++ take l.at l.piece)) l.observer;
}

abbrev pub decreases-loop-at : goal.decreases-loop-at
decreases-loop-at g l = length l.piece - l.at
