-- That no count of tasks falls from one line to the next, while tasks go on, come and leave, and that nothing which is charged falls.
use Rattle.std.specs.Prelude.{◌≡◌, ◌≤◌, ℕ, ◌++◌, List, [], ◌∷◌, IfSome, map, true}
use Rattle.std.specs.List.{AllByRecursion}
use Rattle.tk_series.specs.Limited.{names_of}
use Rattle.tk_series.specs.Series.{is_seen}
use Rattle.tk_series.specs.Totals.{shown_at, sum_at}
use Rattle.tk_odd.specs.Diagnosis.{standing_of}
use Rattle.tk_odd.specs.declared.held.Held.{Held}
use Rattle.tk_odd.specs.declared.limits.Limits.{Limits}
use Rattle.tk_odd.specs.declared.shares.Shares.{Shares}
use Rattle.tk_stream.specs.Tables.{TablesView, empty_tables, task_with}
use Rattle.tk_stream.specs.Times.{TaskTimes}
use Rattle.tk_stream.specs.declared.tables.task.Task.{Task}
use Rattle.tk_reading.specs.Shown.{last_shown}
use Rattle.tk_client.specs.Changes.{Timed}
use Rattle.tk_metrics.specs.Histograms.{task_histogram, times_series}
use Rattle.tk_metrics.specs.Leaving.{gone_in}
use Rattle.tk_metrics.specs.Metrics.{count_of, task_series}
use Rattle.tk_metrics.specs.Entries.{task_entry}
use Rattle.tk_metrics.specs.Keys.{names_since}
use Rattle.tk_metrics.specs.declared.keys.Keys.{Keys}
use Rattle.tk_metrics.specs.Sums.{sums_left, task_labels}
use Rattle.tk_metrics.specs.declared.by.By.{By}
use Rattle.tk_metrics.specs.declared.counted.Counted.{Counted}
use Rattle.tk_metrics.specs.declared.family.Count.{Count}
use Rattle.tk_metrics.specs.declared.family.Timing.{Timing}
use Rattle.tk_metrics.specs.declared.sums.Sums.{Sums}

-- a task goes on: its labels stay, and no count of it falls
pub record GoesOn (by : By) (old new : Task) : Type 0 where
  pub labels : task_labels by new ≡ task_labels by old
  pub counts : (count : Count) → count_of count (sums_left old.row) ≤ count_of count (sums_left new.row)

-- each of these tasks that tables still have goes on there
abbrev pub GoOn : By → List Task → List Task → Type 0
GoOn by [] new = Unit {0}
GoOn by (t ∷ ts) new = IfSome (task_with t.info.id new) (GoesOn by t) × GoOn by ts new

-- the tables after the last line; none before the first
abbrev pub tables_after : List TablesView → TablesView
tables_after shown = last_shown empty_tables shown

-- the labels of each task that is there after these lines are those of one that came: only a wrong writer gives a task others while it is there
abbrev pub AreKnown : By → List TablesView → Type 0
AreKnown by shown = AllByRecursion (λ (t : Task). is_seen (names_of (names_since by empty_tables shown)) (task_labels by t) ≡ true) (tables_after shown).tasks

-- all that is added up after these lines: what has left, and what is there
abbrev pub added : Keys → List TablesView → List (List ℕ × Sums)
added by shown = (gone_in by shown).tasks ++ map (task_entry by (tables_after shown).now) (tables_after shown).tasks

-- the number that is shown of tasks with these labels after these lines
abbrev pub shown_after : Keys → Count → List ℕ → List TablesView → ℕ
shown_after by count labels shown = shown_at (count_of count) labels (task_series by (tables_after shown) (gone_in by shown))

-- ---- histograms

-- the number of a sample
abbrev pub number_of : Counted → ℕ
number_of c = c.number

-- a task's histogram goes on: no sample of it is less than it was
abbrev pub HistogramGoesOn : Timing → Keys → List TaskTimes → List TaskTimes → Task → Task → Type 0
HistogramGoesOn timing by before after old new =
    (key : List ℕ) → sum_at number_of key (task_histogram timing by before old) ≤ sum_at number_of key (task_histogram timing by after new)

-- so it is with each of these tasks that the next tables still have
abbrev pub TimesGoOn : Timing → Keys → List TaskTimes → Timed → List Task → Type 0
TimesGoOn timing by before new [] = Unit {0}
TimesGoOn timing by before new (t ∷ ts) = IfSome (task_with t.info.id new.0.tasks) (HistogramGoesOn timing by before new.1 t) × TimesGoOn timing by before new ts

-- the number that is shown of histograms under a key after these lines
abbrev pub times_after : Timing → Keys → List ℕ → List Timed → ℕ
times_after timing by key timed = shown_at number_of key (times_series timing by timed)

-- ---- who held up whom

-- the time that is shown of a place after these lines: for how long its tasks held up others
abbrev pub held_after : Limits → List ℕ → List TablesView → ℕ
held_after limits place shown = shown_at (λ (h : Held). h.charged) place (standing_of limits shown).places.0

-- what was waited after these lines
abbrev pub shares_after : Limits → List TablesView → Shares
shares_after limits shown = (standing_of limits shown).shares

-- no share is less than it was
pub record NoneFalls (old new : Shares) : Type 0 where
  pub charged : old.charged ≤ new.charged
  pub queued : old.queued ≤ new.queued
  pub nobody : old.nobody ≤ new.nobody
