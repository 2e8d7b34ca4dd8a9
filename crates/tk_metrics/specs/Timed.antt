-- How the histograms of tasks are kept while lines are followed. Inner: no public clause cites this.
use Rattle.std.specs.Prelude.{◌≡◌, ℕ, List, [], true, flat_map, if◌then◌else◌}
use Rattle.tk_series.specs.Series.{series_of}
use Rattle.tk_stream.specs.Tables.{TablesView, item_with}
use Rattle.tk_stream.specs.Times.{TaskTimes, times_id}
use Rattle.tk_client.specs.Changes.{Timed, has_task, untimed}
use Rattle.tk_client.specs.declared.change.LeftTask.{LeftTask}
use Rattle.tk_metrics.specs.Histograms.{left_histogram, plus_counted, task_histogram, times_since, with_all}
use Rattle.tk_metrics.specs.declared.keys.Keys.{Keys}
use Rattle.tk_metrics.specs.Stays.{stays}
use Rattle.tk_metrics.specs.declared.counted.Counted.{Counted}
use Rattle.tk_metrics.specs.declared.family.Timing.{Timing}
use Rattle.tk_metrics.specs.declared.family.Timing.TheVariants.{Polls, Waits}
use Rattle.tk_metrics.specs.declared.histograms.Histograms.{Histograms}

-- ---- what is kept

-- what stays of the histograms of tasks that left with a line
abbrev pub left_times : Timing → Keys → List LeftTask → List (List ℕ × Counted)
left_times timing by left = if stays by.by then flat_map (left_histogram timing by) left else []

-- the histograms of tasks that left with a line were taken
pub record TakesLeft (by : Keys) (left : List LeftTask) (was now : Histograms) : Type 0 where
  pub polls : now.polls ≡ with_all was.polls (left_times Polls by left)
  pub waits : now.waits ≡ with_all was.waits (left_times Waits by left)

-- those of tasks that are there were added
pub record AddsThere (by : Keys) (last : Timed) (was now : Histograms) : Type 0 where
  pub polls : now.polls ≡ with_all was.polls (flat_map (task_histogram Polls by last.1) last.0.tasks)
  pub waits : now.waits ≡ with_all was.waits (flat_map (task_histogram Waits by last.1) last.0.tasks)

-- those of all that left are held
pub record HoldTimes (by : Keys) (timed : List Timed) (h : Histograms) : Type 0 where
  pub polls : h.polls ≡ series_of plus_counted (times_since Polls by untimed timed)
  pub waits : h.waits ≡ series_of plus_counted (times_since Waits by untimed timed)

-- ---- of those that are there

-- the histogram of each task that is there is among these as it stands beside the tables
abbrev pub Agrees : Timed → List TaskTimes → Type 0
Agrees last times = (id : ℕ) → has_task last.0 id ≡ true → item_with times_id id times ≡ item_with times_id id last.1
