use Rattle.std.proofs.Common.{◌≡◌, ◌-◌, ◌^◌, [], false, Some}
use Rattle.std.specs.Io.KnownBytes.{Keeps}
use Rattle.tk_until.specs.Held.{held_len, left_until}
use Rattle.tk_until.proofs.held.Held.ready.Given as goal

-- what is still given stays the same, and no whole line waits
abbrev pub invariant-reads : goal.invariant-reads
invariant-reads g l = record {
  keeps : Keeps (left_until (Some l.until) l.fn.self (g.R.Read.remaining l.fn.reader)) (left_until (Some l.until) l.self (g.R.Read.remaining l.reader));
  all : l.self.ended ≡ false → l.self.more ≡ [];
}

abbrev pub decreases-reads : goal.decreases-reads
decreases-reads g l = 2 ^ 64 - held_len l.self
