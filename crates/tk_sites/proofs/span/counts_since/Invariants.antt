use Rattle.std.proofs.Common.{◌≡◌, ◌≤◌, length, take}
use Rattle.tk_sites.specs.Span.{less_from}
use Rattle.tk_sites.proofs.span.counts_since.Given as goal

-- the counts of the buckets so far
abbrev pub invariant-loop-bucket : goal.invariant-loop-bucket
invariant-loop-bucket l = (l.bucket ≤ 14) × (length l.counts ≡ 14) × (take l.bucket l.counts ≡ less_from 0 l.bucket l.old l.now)
