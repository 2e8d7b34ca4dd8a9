use Rattle.std.proofs.Common.{ℕ, ◌+◌, ◌-◌, ◌≤◌, ◌<◌, length, get_or}
use Rattle.tk_stream.proofs.tables.slots.empty_before_place.Given as goal

-- the empty slots below `low` stand before the slot of the place, and those from `high` on after it
abbrev pub invariant-loop-low : goal.invariant-loop-low
invariant-loop-low l = record {
  order : l.low ≤ l.high;
  within : l.high ≤ length l.empty;
  before : (j : ℕ) → j < l.low → get_or l.empty j 0 ≤ l.place + j;
  after : (j : ℕ) → l.high ≤ j → j < length l.empty → l.place + j < get_or l.empty j 0;
}

abbrev pub decreases-loop-low : goal.decreases-loop-low
decreases-loop-low l = l.high - l.low
