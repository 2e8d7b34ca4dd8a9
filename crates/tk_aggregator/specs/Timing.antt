-- What an aggregator keeps of histograms of poll times: those of its tasks, those that the last whole line's readers hold, and who reads them.
use Rattle.std.specs.Prelude.{◌≡◌, ℕ, ◌≤◌, List, [], ◌∷◌, ◌++◌, length, map, slice_get, slice_set, Bool, false, if◌then◌else◌, Option, Some, None}
use Rattle.std.specs.List.{AllByRecursion}
use Rattle.tk_core.specs.declared.times.row.TimesRow.{TimesRow}
use Rattle.tk_core.specs.declared.times.call.TimesCall.{TimesCall}
use Rattle.tk_core.specs.declared.times.call.TimesCall.TheVariants.{Add, Read}
use Rattle.tk_core.specs.Times.{times_kind, opening_row, longest_of, counts_from}
use Rattle.tk_core.specs.TimesMeaning.{times_meaning}
use Rattle.tk_ledgers.specs.Times.{TimesSight, added_times}
use Rattle.tk_stream.specs.declared.tables.times.PollTimes.{PollTimes}
use Rattle.tk_stream.specs.Fronts.{Telling, with_rows}
use Rattle.tk_stream.specs.Lines.{told_times}
use Rattle.tk_stream.specs.Retention.{stats_without}
use Rattle.tk_stream.specs.Tables.{staying, changed_at}
use Rattle.tk_stream.specs.Times.{TaskTimes, times_id, times_shown, times_with}
use Rattle.tk_aggregator.specs.Readings.{Ledger, Reads, IsRead, ReadAll}

-- how the ledger of a histogram is read
abbrev pub times_ledger : Ledger TimesRow TimesCall
times_ledger = record { kind = times_kind; meaning = times_meaning; read = Read }

-- what contracts see of an aggregator's histograms
pub record TimingView : Type 0 where
  -- histograms are read, and lines tell them
  pub reads : Bool
  -- the histograms of the tasks that have one, in order of arrival
  pub shown : List TaskTimes
  -- those that whoever took the last whole line holds
  pub told : List TaskTimes
  -- who reads them, in the order of those that are shown
  pub readers : List TimesSight

-- none, which are read or not
abbrev pub no_timing : Bool → TimingView
no_timing reads = record { reads = reads; shown = []; told = []; readers = [] }

-- ---- reading

-- a reader read, and the histogram is what it read
abbrev pub ReadsShown : TimesSight → PollTimes → TimesSight → Type 0
ReadsShown s times t = (row : TimesRow) × (times ≡ times_shown row) × Reads times_ledger s row t

-- a reader is of the task, and read its histogram last
abbrev pub ReadTimes : TaskTimes → TimesSight → Type 0
ReadTimes t s = (s.id ≡ times_id t) × ((row : TimesRow) × (t.1 ≡ times_shown row) × IsRead times_ledger s row)

-- each reader read once, and what it read is the histogram of its task; nothing else changed
abbrev pub ReadsTimes : TimingView → TimingView → Type 0
ReadsTimes old new = (rows : List TimesRow) × ReadAll times_ledger old.readers rows new.readers
    × (new ≡ record old { shown = with_rows times_with old.shown (map times_shown rows); readers = new.readers })

-- ---- reading beside an owner

-- the histogram of these times
abbrev pub times_of : List ℕ → PollTimes
times_of times = record { longest = longest_of (map Add times); counts = counts_from 0 14 (map Add times); waits = None }

-- an owner is of the same histogram, to which it has added the same times
pub record StaysOwner (old new : TimesSight) : Type 0 where
  pub id : new.id ≡ old.id
  pub ledger : new.token.ledger ≡ old.token.ledger
  pub added : added_times new.token ≡ added_times old.token

-- a reader read beside the owner of its histogram: this is that of the times that the owner has added, and of no others
pub record ReadsShownBeside (owner reader : TimesSight) (times : PollTimes) (owner_then read : TimesSight) : Type 0 where
  pub reading : ReadsShown reader times read
  pub shows : times ≡ times_of (added_times owner.token)
  pub owner_stays : StaysOwner owner owner_then

-- readers of an owner's task are of its histogram
abbrev pub AreOfOwner : TimesSight → List TimesSight → Type 0
AreOfOwner owner readers = AllByRecursion (λ (s : TimesSight). s.id ≡ owner.id → s.token.ledger ≡ owner.token.ledger) readers

-- a histogram was read beside its owner: where that of the owner's task is at this place, it is that of the times that the owner has added, and
-- nothing else changed; where there is none, nothing did
abbrev pub ReadsTimesBeside : TimesSight → TimingView → TimingView → Option ℕ → Type 0
ReadsTimesBeside owner old new None = new ≡ old
ReadsTimesBeside owner old new (Some place) = (reader read : TimesSight) × (slice_get old.readers place ≡ Some reader) × ReadsShown reader (times_of (added_times owner.token)) read
    × (new ≡ record old { shown = changed_at (λ t. times_with t (times_of (added_times owner.token))) old.shown place; readers = slice_set old.readers place read })

-- ---- a histogram more

-- histograms with one more, of a task whose reader is still to come: it shows no poll
abbrev pub timing_opened : ℕ → TimingView → TimingView
timing_opened task t = record t { shown = t.shown ++ (task, times_shown opening_row) ∷ [] }

-- histograms with this one more, and with who read it
abbrev pub timing_with : TaskTimes → TimesSight → TimingView → TimingView
timing_with times reader t = record t { shown = t.shown ++ times ∷ []; readers = t.readers ++ reader ∷ [] }

-- ---- lines

-- the histograms that a line tells where these tasks leave: those that are new since they were told, or others now, of tasks that
-- stay. A snapshot tells all of these. Where none are read a line tells of none
abbrev pub told_by : Bool → TimingView → List ℕ → Option (List TaskTimes)
told_by snapshot t gone = if t.reads then Some (stats_without times_id gone (told_times (if snapshot then [] else t.told) t.shown)) else None

-- without the histograms of tasks that leave. Their readers are let go
abbrev pub timing_without : List ℕ → TimingView → TimingView
timing_without gone t = record t { shown = staying times_id gone t.shown; readers = staying (λ (s : TimesSight). s.id) gone t.readers }

-- what stands after a whole line with which these tasks leave: their histograms and readers are let go, and all others are told
abbrev pub timing_told : List ℕ → TimingView → TimingView
timing_told gone t = record t {
  shown = staying times_id gone t.shown;
  told = staying times_id gone t.shown;
  readers = staying (λ (s : TimesSight). s.id) gone t.readers;
}

-- ---- inside. No public clause cites this

-- no more were told than there are, there is room for what was told of each and for a reader of each, and there are none where none are read
pub record AreTimed (reads : Bool) (shown : List TaskTimes) (telling : Telling PollTimes) (seats : ℕ) : Type 0 where
  pub told : length telling.rows ≤ length shown
  pub room : length shown ≤ telling.room
  pub seated : length shown ≤ seats
  pub unread : reads ≡ false → shown ≡ []
