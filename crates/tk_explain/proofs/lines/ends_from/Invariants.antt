use Rattle.std.proofs.Common.{◌≤◌, ◌-◌, length, take}
use Rattle.tk_explain.specs.Keeping.{IsOpenAt}
use Rattle.tk_explain.proofs.lines.ends_from.Given as goal

-- it is known of the bytes that were looked at
abbrev pub invariant-loop-at : goal.invariant-loop-at
invariant-loop-at l = record {
  within : l.at ≤ length l.bytes;
  known : IsOpenAt (take l.at l.bytes) l.ended l.start;
}

abbrev pub decreases-loop-at : goal.decreases-loop-at
decreases-loop-at l = length l.bytes - l.at
