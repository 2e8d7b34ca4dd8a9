use Rattle.std.proofs.Common.{◌≡◌, ◌≤◌, drop, length}
use Rattle.tk_frame.specs.Places.{digits_end}
use Rattle.tk_frame.proofs.site_parts.digits_end.Given as goal

-- the last digit so far ends there
abbrev pub invariant-loop-i : goal.invariant-loop-i
invariant-loop-i l = record {
  within : l.end ≤ l.i;
  at : l.i ≤ length l.text;
  is : digits_end 0 0 l.text ≡ digits_end l.i l.end (drop l.i l.text);
}
