-- What the handles of a histogram of times show, and what the histogram of a task has to do with its polls.
use Rattle.std.specs.Prelude.{◌≡◌, ℕ, ◌^◌, ◌-◌, ◌<◌, List, [], ◌++◌, Option, Some, None, Result, IfOk, IfErr, All, map, sum, take, ⊤}
use Rattle.std.specs.List.{filter_map}
use Rattle.std.specs.Option.{option_map}
use mathlib.Core.List.{IsPrefix}
use Rattle.tk_core.specs.declared.reply.Refusal.{Refusal}
use Rattle.tk_core.specs.declared.reply.Reply.{Reply}
use Rattle.tk_core.specs.declared.reply.Reply.TheVariants.{Done, Shown}
use Rattle.tk_core.specs.declared.task.call.TaskCall.{TaskCall}
use Rattle.tk_core.specs.declared.times.row.TimesRow.{TimesRow}
use Rattle.tk_core.specs.declared.times.call.TimesCall.{TimesCall}
use Rattle.tk_core.specs.declared.times.call.TimesCall.TheVariants.{Add, Enlist, Read}
use Rattle.tk_core.specs.Lists.{each_after}
use Rattle.tk_core.specs.Polls.{run_time}
use Rattle.tk_core.specs.History.{accepted}
use Rattle.tk_core.specs.Legal.{own}
use Rattle.tk_core.specs.Fold.{is_accepted}
use Rattle.tk_core.specs.Task.{start_at, end_at}
use Rattle.tk_core.specs.Times.{time_of, counts_from, longest_of, opening_row}
use Rattle.tk_core.specs.TimesMeaning.{times_meaning}
use Rattle.tk_cell.specs.declared.view.View.{View}
use Rattle.tk_cell.specs.Views.{opened}
use Rattle.tk_cell.specs.Calls.{Calls, Joins}
use Rattle.tk_ledgers.specs.Handles.{Sight, KnownTimes, Drew, NotDrawn}
use Rattle.tk_ledgers.specs.Tasks.{TaskSight, owner_calls}

-- what contracts see of a histogram's handle
abbrev pub TimesSight : Type 0
TimesSight = Sight TimesRow TimesCall (Reply TimesRow)

-- a handle of a histogram, where there is one, is of this task
abbrev pub IsOfTask : ℕ → Option TimesSight → Type 0
IsOfTask id None = ⊤
IsOfTask id (Some times) = times.id ≡ id

-- what is known by it
abbrev pub known_times : Option TimesSight → Option KnownTimes
known_times times = option_map (λ t. t.token) times

-- two tokens are of the same histogram, or of none
abbrev pub IsSameHistogram : Option KnownTimes → Option KnownTimes → Type 0
IsSameHistogram old new = option_map (λ (t : KnownTimes). t.ledger) new ≡ option_map (λ (t : KnownTimes). t.ledger) old

-- a token is of the histogram that there is
abbrev pub IsOfHistogram : Option KnownTimes → KnownTimes → Type 0
IsOfHistogram times t = Some t.ledger ≡ option_map (λ (t : KnownTimes). t.ledger) times

-- ---- the times of a histogram, and the polls of its task

-- how long the polls ran that these calls of a task's owner end, which come after those before, in their order
unfoldable pub runs_after : List TaskCall → List TaskCall → List ℕ
runs_after before calls = filter_map (λ p. option_map (λ m. run_time start_at end_at p.0 p.1) (end_at p.1)) (each_after before calls)

-- how long the polls ran that these calls of a task's owner end
abbrev pub runs_of : List TaskCall → List ℕ
runs_of calls = runs_after [] calls

-- the times that the owner of a histogram added, in their order, as far as is known
abbrev pub added_times : KnownTimes → List ℕ
added_times t = filter_map time_of (accepted is_accepted (own 0 t.view.seen))

-- a histogram is its owner's, who added how long the polls ran that these calls of the task's owner end, each once and in their order
pub record AreTimesOf (calls : List TaskCall) (t : KnownTimes) : Type 0 where
  pub caller : t.view.caller ≡ 0
  pub runs : added_times t ≡ runs_of calls

-- so it is of the histogram of a task, where it has one, as far as the owner has seen
abbrev pub IsTimed : TaskSight → Type 0
IsTimed h = (t : KnownTimes) → h.times ≡ Some t → AreTimesOf (owner_calls h) t

-- a histogram that there is stays its owner's, with these times added; where there is none there will be none
abbrev pub TimesGrow : Option KnownTimes → List ℕ → Option KnownTimes → Type 0
TimesGrow None times new = new ≡ None
TimesGrow (Some old) times new = (t : KnownTimes) × (new ≡ Some t) × (t.ledger ≡ old.ledger) × (t.view.caller ≡ old.view.caller) × (added_times t ≡ added_times old ++ times)

-- ---- the calls of handles

-- a task with a histogram that no time was added to
abbrev pub IsNewHistogram : Option KnownTimes → Type 0
IsNewHistogram times = (t : KnownTimes) × (times ≡ Some t) × (t.view ≡ opened opening_row)

-- a time is added to the histogram that there is, by one entry of its owner
abbrev pub AddsTime : Option KnownTimes → ℕ → Option KnownTimes → Type 0
AddsTime None time new = new ≡ None
AddsTime (Some old) time new = (t : KnownTimes) × (new ≡ Some t) × (t.ledger ≡ old.ledger) × (old.view.caller ≡ 0) × Calls times_meaning old.view (Add time) Done t.view

-- the histogram that there is is read
abbrev pub ReadsTimes : Option KnownTimes → Option TimesRow → Option KnownTimes → Type 0
ReadsTimes None found new = (found ≡ None) × (new ≡ None)
ReadsTimes (Some old) found new = (row : TimesRow) × (t : KnownTimes) × (found ≡ Some row) × (new ≡ Some t) × (t.ledger ≡ old.ledger) × Calls times_meaning old.view Read (Shown row) t.view

-- an inspector of this task's histogram is drawn, or is refused
pub record DrawsTimes (id : ℕ) (old : KnownTimes) (drawn : Result TimesSight Refusal) (new : KnownTimes) : Type 0 where
  pub ledger : new.ledger ≡ old.ledger
  pub made_id : IfOk drawn (λ made. made.id ≡ id)
  pub made_ledger : IfOk drawn (λ made. made.token.ledger ≡ old.ledger)
  pub ok : IfOk drawn (λ made. Drew times_meaning old Enlist new made.token)
  pub err : IfErr drawn (λ refusal. NotDrawn times_meaning old Enlist refusal new)

-- so it is where there is a histogram
abbrev pub InspectsTimes : ℕ → Option KnownTimes → Option (Result TimesSight Refusal) → Option KnownTimes → Type 0
InspectsTimes id None found new = (found ≡ None) × (new ≡ None)
InspectsTimes id (Some old) found new = (drawn : Result TimesSight Refusal) × (t : KnownTimes) × (found ≡ Some drawn) × (new ≡ Some t) × DrawsTimes id old drawn t

-- ---- what a reading shows

-- a row shows these times: the longest, and how many of them lie in each bucket
abbrev pub ShowsTimes : TimesRow → List ℕ → Type 0
ShowsTimes row times = (row.longest ≡ longest_of (map Add times)) × (row.counts ≡ counts_from 0 14 (map Add times))

-- a row shows the first of these times, as many as its counts add up to while none has stopped
pub record ShowsFirst (row : TimesRow) (times : List ℕ) : Type 0 where
  pub many : ℕ
  pub shows : ShowsTimes row (take many times)
  pub counted : All (λ (n : ℕ). n < 2 ^ 64 - 1) row.counts → sum row.counts ≡ many

-- where a reader saw no more of the entries of a histogram's owner than is known by the owner's token, it shows how long the first of the task's polls ran
abbrev pub ShowsFirstPolls : Type 0
ShowsFirstPolls = (h : TaskSight) (t : KnownTimes) (v w : View TimesRow TimesCall (Reply TimesRow)) (row : TimesRow)
    → IsTimed h → h.times ≡ Some t → Calls times_meaning v Read (Shown row) w → IsPrefix (own 0 w.seen) (own 0 t.view.seen) → ShowsFirst row (runs_of (owner_calls h))

-- where it has learnt what the owner's token knows, it shows how long all of them ran
abbrev pub ShowsAllPolls : Type 0
ShowsAllPolls = (h : TaskSight) (t : KnownTimes) (v u w : View TimesRow TimesCall (Reply TimesRow)) (row : TimesRow)
    → IsTimed h → h.times ≡ Some t → Joins times_meaning v t.view u → Calls times_meaning u Read (Shown row) w → ShowsTimes row (runs_of (owner_calls h))

-- and of a reader that learns it later, each reading before showed the first of them
abbrev pub ShowsFirstBefore : Type 0
ShowsFirstBefore = (h : TaskSight) (t : KnownTimes) (v w x u : View TimesRow TimesCall (Reply TimesRow)) (row : TimesRow)
    → IsTimed h → h.times ≡ Some t → Calls times_meaning v Read (Shown row) w → IsPrefix w.seen x.seen → Joins times_meaning x t.view u → ShowsFirst row (runs_of (owner_calls h))
