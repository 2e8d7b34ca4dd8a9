-- One poll operation more in the poll counts.
use Rattle.std.specs.Prelude.{ℕ, ◌+◌, Bool, List, if◌then◌else◌}
use Rattle.tk_core.specs.Lists.{capped}
use Rattle.tk_stream.specs.Tables.{PollCounts, counts_id, counts_of, put_item}

-- one more that was ready, or pending: at most 2^64 - 1 of each
abbrev pub one_more : Bool → ℕ × ℕ → ℕ × ℕ
one_more ready counts = if ready then (capped (counts.0 + 1), counts.1) else (counts.0, capped (counts.1 + 1))

-- the counts with one more poll operation of a resource. That of a resource without any goes last
abbrev pub counted : ℕ → Bool → List PollCounts → List PollCounts
counted id ready counts = put_item counts_id (id, (one_more ready (counts_of id counts)).0, (one_more ready (counts_of id counts)).1) counts
