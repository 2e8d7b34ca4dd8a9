-- Histograms of tasks, as Prometheus has them: how many polls ran, and how many waits took, up to each bound.
use Rattle.std.specs.Prelude.{ℕ, ◌+◌, ◌==◌, List, length, [], ◌∷◌, ◌++◌, codes, decimal, flat_map, fold, true, false, not, is_some, unwrap_or, Option, Some, option_map, option_and_then, slice_get, if◌then◌else◌}
use Rattle.std.specs.Option.{option_map_or}
use Rattle.tk_core.specs.Lists.{capped}
use Rattle.tk_core.specs.Percentiles.{total_of}
use Rattle.tk_core.specs.Task.{waited_of}
use Rattle.tk_core.specs.Times.{bounds}
use Rattle.tk_core.specs.declared.task.row.TaskRow.{TaskRow}
use Rattle.tk_report.specs.Timed.{sums_from}
use Rattle.tk_client.specs.Changes.{Timed, untimed}
use Rattle.tk_client.specs.declared.change.LeftTask.{LeftTask}
use Rattle.tk_reading.specs.Shown.{last_timed}
use Rattle.tk_series.specs.Series.{series_of, with_value}
use Rattle.tk_stream.specs.Tables.{TablesView, item_with, task_with}
use Rattle.tk_stream.specs.Times.{TaskTimes, times_id}
use Rattle.tk_stream.specs.declared.tables.task.Task.{Task}
use Rattle.tk_stream.specs.declared.tables.times.PollTimes.{PollTimes}
use Rattle.tk_stream.specs.declared.tables.times.WaitTimes.{WaitTimes}
use Rattle.tk_metrics.specs.Families.{base_of}
use Rattle.tk_metrics.specs.Keys.{labels_in}
use Rattle.tk_metrics.specs.declared.keys.Keys.{Keys}
use Rattle.tk_metrics.specs.Samples.{family, seconds, with_label}
use Rattle.tk_metrics.specs.Stays.{stays}
use Rattle.tk_metrics.specs.declared.counted.Counted.{Counted}
use Rattle.tk_metrics.specs.declared.family.Family.TheVariants as families
use Rattle.tk_metrics.specs.declared.family.Timing.{Timing}
use Rattle.tk_metrics.specs.declared.family.Timing.TheVariants.{Polls, Waits}

-- ---- one histogram

-- so many, which stay at 2^64 - 1
abbrev pub counted : ℕ → Counted
counted n = record { number = capped n; is_time = false }

-- so long
abbrev pub lasted : ℕ → Counted
lasted n = record { number = n; is_time = true }

-- both numbers
abbrev pub plus_counted : Counted → Counted → Counted
plus_counted a b = record { number = capped (a.number + b.number); is_time = a.is_time }

-- the bound of a bucket, in seconds; the last has none
abbrev pub bound_text : ℕ → List ℕ
bound_text bucket = option_map_or seconds (slice_get bounds bucket) (codes "+Inf")

-- what stands of a bucket after its family's name
abbrev pub bucket_key : List ℕ → ℕ → List ℕ
bucket_key labels bucket = codes "_bucket{" ++ (with_label labels (codes "le") (bound_text bucket) ++ codes "}")

-- and of a number of the whole histogram, which begins with this word
abbrev pub whole_key : List ℕ → List ℕ → List ℕ
whole_key word labels = word ++ (labels ++ codes "}")

-- buckets from this one on, each with how many lie in it and those before it
abbrev pub buckets_from : List ℕ → ℕ → List ℕ → List (List ℕ × Counted)
buckets_from labels bucket [] = []
buckets_from labels bucket (n ∷ ns) = (bucket_key labels bucket, counted n) ∷ buckets_from labels (bucket + 1) ns

-- the numbers of a histogram with these labels: of its buckets, how long all took, and how many there are
abbrev pub histogram : List ℕ → List ℕ → ℕ → List (List ℕ × Counted)
histogram labels counts sum =
    buckets_from labels 0 (sums_from 0 counts)
    ++ ((whole_key (codes "_sum{") labels, lasted sum) ∷ (whole_key (codes "_count{") labels, counted (total_of counts)) ∷ [])

-- ---- tasks

-- how many polls ended, or waits did, in each bucket, where a task's are counted
abbrev pub counts_in : Timing → PollTimes → Option (List ℕ)
counts_in Polls times = Some times.counts
counts_in Waits times = option_map (λ (w : WaitTimes). w.counts) times.waits

abbrev pub counts_with : Timing → List TaskTimes → ℕ → Option (List ℕ)
counts_with timing times id = option_and_then (λ (t : TaskTimes). counts_in timing t.1) (item_with times_id id times)

-- how long a task's polls ran that have ended, or how long it waited
abbrev pub sum_in : Timing → TaskRow → ℕ
sum_in Polls x = x.busy
sum_in Waits x = unwrap_or (waited_of x) x.sched

-- a task's histogram, where it has one beside these tables
abbrev pub task_histogram : Timing → Keys → List TaskTimes → Task → List (List ℕ × Counted)
task_histogram timing by times t =
    option_map_or (λ counts. histogram (labels_in by t) counts (sum_in timing t.row)) (counts_with timing times t.info.id) []

-- that of a task that the next tables have no more
abbrev pub gone_histogram : Timing → Keys → List TaskTimes → TablesView → Task → List (List ℕ × Counted)
gone_histogram timing by times new t =
    if not (is_some (task_with t.info.id new.tasks)) then task_histogram timing by times t else []

-- that of a task that left, where it had one
abbrev pub left_histogram : Timing → Keys → LeftTask → List (List ℕ × Counted)
left_histogram timing by l =
    option_map_or (λ counts. histogram (labels_in by l.task) counts (sum_in timing l.task.row)) (option_and_then (λ (x : PollTimes). counts_in timing x) l.times) []

-- ---- line by line

-- what stays of the histograms of tasks that the next tables have no more
abbrev pub times_left : Timing → Keys → Timed → TablesView → List (List ℕ × Counted)
times_left timing by old new = if stays by.by then flat_map (gone_histogram timing by old.1 new) old.0.tasks else []

-- and of those that left since
abbrev pub times_since : Timing → Keys → Timed → List Timed → List (List ℕ × Counted)
times_since timing by old [] = []
times_since timing by old (new ∷ timed) = times_left timing by old new.0 ++ times_since timing by new timed

-- all histograms after these lines: of tasks that have left, and of those that are there
abbrev pub all_times : Timing → Keys → List Timed → List (List ℕ × Counted)
all_times timing by timed =
    times_since timing by untimed timed ++ flat_map (task_histogram timing by (last_timed untimed timed).1) (last_timed untimed timed).0.tasks

-- added up where the labels are the same
abbrev pub times_series : Timing → Keys → List Timed → List (List ℕ × Counted)
times_series timing by timed = series_of plus_counted (all_times timing by timed)

-- series to which these were added, one after the other
abbrev pub with_all : List (List ℕ × Counted) → List (List ℕ × Counted) → List (List ℕ × Counted)
with_all series more = fold (λ s x. with_value plus_counted x.0 x.1 s) series more

-- ---- the text

-- a number as it is written
abbrev pub counted_text : Counted → List ℕ
counted_text c = if c.is_time then seconds c.number else decimal c.number

-- a sample of a histogram
abbrev pub times_sample : Timing → List ℕ × Counted → List ℕ
times_sample timing s = base_of (families.Times timing) ++ s.0 ++ codes " " ++ counted_text s.1 ++ codes "\n"

-- a family of histograms, where there are any
abbrev pub times_family : Timing → List (List ℕ × Counted) → List ℕ
times_family timing series = if length series == 0 then [] else family (families.Times timing) (times_sample timing) series

-- the histograms of polls and of waits after these lines
abbrev pub times_families : Keys → List Timed → List ℕ
times_families by timed = times_family Polls (times_series Polls by timed) ++ times_family Waits (times_series Waits by timed)
