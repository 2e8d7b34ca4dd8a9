use Rattle.std.proofs.Common.{◌≡◌, ◌-◌, ◌≤◌, ◌++◌, length, take, option_map}
use Rattle.tk_stream.specs.Times.{counts_from}
use Rattle.tk_stream.proofs.tables.times.counts_of.Given as goal

-- the counts of the first buckets are there, and those of the others are in the rest
abbrev pub invariant-loop-bucket : goal.invariant-loop-bucket
invariant-loop-bucket l =
    (l.bucket ≤ 14) × (length l.counts ≡ 14)
    × (counts_from 0 14 l.filled ≡ option_map (λ ns. take l.bucket l.counts ++ ns) (counts_from l.bucket (14 - l.bucket) l.rest))
