-- In which bucket of a histogram a percentile of its times lies, and what that says of the times.
use Rattle.std.specs.Prelude.{◌≡◌, ℕ, zero, suc, ◌+◌, ◌*◌, ◌<◌, ◌≤◌, nat_lt, if◌then◌else◌, List, [], ◌∷◌, length, take, get_or, filter, Option, Some, None, MatchOption}
use Rattle.tk_core.specs.Times.{bounds}

-- how many times some buckets count
abbrev pub total_of : List ℕ → ℕ
total_of [] = 0
total_of (count ∷ counts) = count + total_of counts

-- the bucket of a percentile: of a hundred of the times fewer lie in the buckets before it, and at least so many in these and it
abbrev pub IsBucketOf : ℕ → List ℕ → ℕ → Type 0
IsBucketOf percent counts bucket = (100 * total_of (take bucket counts) < percent * total_of counts) × (percent * total_of counts ≤ 100 * total_of (take (bucket + 1) counts))

-- what is answered of a percentile: its bucket, or that there are no times
abbrev pub IsPercentile : ℕ → List ℕ → Option ℕ → Type 0
IsPercentile percent counts answer = MatchOption answer (total_of counts ≡ 0) (λ bucket. IsBucketOf percent counts bucket)

-- where a bucket begins: the first at 0, each other at the bound that it has reached
abbrev pub begin_of : ℕ → ℕ
begin_of zero = 0
begin_of (suc before) = get_or bounds before 0

-- where a bucket ends: at the next bound, and the last nowhere
abbrev pub end_of : ℕ → Option ℕ
end_of bucket = if nat_lt bucket 13 then Some (get_or bounds bucket 0) else None

-- how many of some times are shorter than this
abbrev pub shorter : ℕ → List ℕ → ℕ
shorter bound times = length (filter (λ time. nat_lt time bound) times)

-- how many of some times are shorter than the end of a bucket
abbrev pub before_end : Option ℕ → List ℕ → ℕ
before_end (Some bound) times = shorter bound times
before_end None times = length times

-- what a bucket says of a percentile of some times: of a hundred fewer are shorter than its begin, and at least so many are shorter than its end
abbrev pub IsHonest : ℕ → ℕ → List ℕ → Type 0
IsHonest percent bucket times = (100 * shorter (begin_of bucket) times < percent * length times) × (percent * length times ≤ 100 * before_end (end_of bucket) times)
