-- How long the polls of a place's tasks ran, and how long they waited: their histograms, added up.
use Rattle.std.specs.Prelude.{ℕ, zero, suc, ◌+◌, max, List, [], ◌∷◌, replicate, get_or, Option}
use Rattle.std.specs.Option.{option_map_or}
use Rattle.tk_core.specs.Lists.{capped}
use Rattle.tk_stream.specs.declared.tables.times.PollTimes.{PollTimes}
use Rattle.tk_stream.specs.declared.tables.times.WaitTimes.{WaitTimes}
use Rattle.tk_sites.specs.declared.times.Histogram.{Histogram}
use Rattle.tk_sites.specs.declared.times.SiteTimes.{SiteTimes}

-- of no task
abbrev pub no_histogram : Histogram
no_histogram = record { tasks = 0; longest = 0; counts = replicate 14 0 }

-- of one task
abbrev pub one_histogram : ℕ → List ℕ → Histogram
one_histogram longest counts = record { tasks = 1; longest = longest; counts = counts }

-- the counts of both in each of so many buckets, from this one on. A count that passes 2^64 - 1 stays there
abbrev pub both_from : ℕ → ℕ → List ℕ → List ℕ → List ℕ
both_from k zero a b = []
both_from k (suc n) a b = capped (get_or a k 0 + get_or b k 0) ∷ both_from (k + 1) n a b

-- the counts of both, bucket by bucket
abbrev pub both_counts : List ℕ → List ℕ → List ℕ
both_counts a b = both_from 0 14 a b

-- both: their tasks and counts are added, and of the longest times the longer one is kept
abbrev pub both_histograms : Histogram → Histogram → Histogram
both_histograms a b = record {
  tasks = capped (a.tasks + b.tasks);
  longest = max a.longest b.longest;
  counts = both_counts a.counts b.counts;
}

-- of a task that has no histograms
abbrev pub untold : SiteTimes
untold = record { polls = no_histogram; waits = no_histogram }

-- the histogram of a task's waits, where they are counted
abbrev pub waits_of : Option WaitTimes → Histogram
waits_of waits = option_map_or (λ (w : WaitTimes). one_histogram w.longest w.counts) waits no_histogram

-- of a task that has these
abbrev pub told : PollTimes → SiteTimes
told times = record { polls = one_histogram times.longest times.counts; waits = waits_of times.waits }

-- of a task, whether it has any or not
abbrev pub times_of : Option PollTimes → SiteTimes
times_of times = option_map_or told times untold

-- both: polls and waits
abbrev pub plus_times : SiteTimes → SiteTimes → SiteTimes
plus_times a b = record { polls = both_histograms a.polls b.polls; waits = both_histograms a.waits b.waits }
