-- What the tasks of places came to within a span of a stream: at its end, less what they had come to at the moment when it begins.
use Rattle.std.specs.Prelude.{ℕ, zero, suc, ◌+◌, ◌-◌, ◌==◌, nat_lt, List, [], ◌∷◌, length, get_or, slice_get, Option, Some, None, option_and_then, unwrap_or, if◌then◌else◌}
use Rattle.std.specs.Option.{option_map_or}
use Rattle.tk_report.specs.Timed.{percentile_high}
use Rattle.tk_series.specs.Limited.{LimitedView}
use Rattle.tk_sites.specs.Times.{untold}
use Rattle.tk_sites.specs.declared.span.SpanHistogram.{SpanHistogram}
use Rattle.tk_sites.specs.declared.span.Longest.{Longest}
use Rattle.tk_sites.specs.declared.span.Longest.TheVariants.{Known, AtMost}
use Rattle.tk_sites.specs.declared.span.SpanTimes.{SpanTimes}
use Rattle.tk_sites.specs.declared.sums.Sums.{Sums}
use Rattle.tk_sites.specs.declared.times.Histogram.{Histogram}
use Rattle.tk_sites.specs.declared.times.SiteTimes.{SiteTimes}

-- ---- places at the moment, each found by the index at which it stands at the end: the stream up to the moment is a front of the whole, so a place stands
-- at the same index in both

-- what all others had come to, which stand behind those that stand by themselves as one more, where they stand at this index
abbrev pub rest_then : {V : Type 0} → LimitedView V → ℕ → Option V
rest_then old index = if index == length old.first then old.rest else None

-- what the place at an index had come to, where it was there
abbrev pub value_then : {V : Type 0} → LimitedView V → ℕ → Option V
value_then old index = option_map_or (λ x. Some x.1) (slice_get old.first index) (rest_then old index)

-- ---- sums

-- what tasks came to since they had come to this: each sum that only grows is less by what it was, and never below 0. How many there are in each state,
-- how many came, how many left, and whom is warned of stays as it is at the end
abbrev pub sums_since : Sums → Sums → Sums
sums_since old s = record s {
  polls = s.polls - old.polls;
  wakes = s.wakes - old.wakes;
  own = s.own - old.own;
  clones = s.clones - old.clones;
  drops = s.drops - old.drops;
  busy = s.busy - old.busy;
  sched = s.sched - old.sched;
  waited = s.waited - old.waited;
}

-- the same, where they had come to anything. A place that wasn't there has all of it
abbrev pub sums_by : Option Sums → Sums → Sums
sums_by old s = option_map_or (λ was. sums_since was s) old s

-- ---- histograms

-- the counts of each of so many buckets, from this one on, less what they were, and never below 0
abbrev pub less_from : ℕ → ℕ → List ℕ → List ℕ → List ℕ
less_from k zero old counts = []
less_from k (suc n) old counts = (get_or counts k 0 - get_or old k 0) ∷ less_from (k + 1) n old counts

-- the counts less what they were, bucket by bucket
abbrev pub counts_since : List ℕ → List ℕ → List ℕ
counts_since old counts = less_from 0 14 old counts

-- where no time is longer than this, the longest is known if this is 0
abbrev pub bounded : ℕ → Longest
bounded n = if n == 0 then Known 0 else AtMost n

-- the longest of a span's times, of which these are the counts, where the longest of all was this before, and is that at the end. It is known where it
-- grew. Else only a bound is, by the last bucket that counts any: what all of the span's times don't pass. Where there are none, it is 0
abbrev pub longest_since : ℕ → ℕ → List ℕ → Longest
longest_since old longest counts =
    if nat_lt old longest then Known longest else bounded (unwrap_or (percentile_high 100 longest counts) 0)

-- a histogram since it was this
abbrev pub histogram_since : Histogram → Histogram → SpanHistogram
histogram_since old h = record {
  tasks = h.tasks;
  longest = longest_since old.longest h.longest (counts_since old.counts h.counts);
  counts = counts_since old.counts h.counts;
}

-- the histograms of a place since they were these
abbrev pub times_since : SiteTimes → SiteTimes → SpanTimes
times_since old times = record { polls = histogram_since old.polls times.polls; waits = histogram_since old.waits times.waits }

-- those of the place at an index, where it was there. One that wasn't had none
abbrev pub times_then : Option (LimitedView SiteTimes) → ℕ → SiteTimes
times_then old index = unwrap_or (option_and_then (λ all. value_then all index) old) untold
