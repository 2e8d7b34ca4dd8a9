use Rattle.std.proofs.Common.{◌≡◌, ◌≤◌, length, take}
use Rattle.tk_sites.specs.Times.{both_from}
use Rattle.tk_sites.proofs.times.both_counts.Given as goal

-- the counts of the buckets so far
abbrev pub invariant-loop-bucket : goal.invariant-loop-bucket
invariant-loop-bucket l = (l.bucket ≤ 14) × (length l.counts ≡ 14) × (take l.bucket l.counts ≡ both_from 0 l.bucket l.first l.more)
