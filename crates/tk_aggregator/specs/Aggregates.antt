-- What an aggregator is, and what its calls make of it.
use Rattle.std.specs.Prelude.{◌≡◌, ℕ, ◌+◌, ◌^◌, ◌<◌, ◌≤◌, List, [], ◌∷◌, ◌++◌, map, length, Bool, true, false, if◌then◌else◌, MatchBool, Option, Some, None, is_some, IfSome, IfNone}
use Rattle.std.specs.Io.KnownBytes.{Appends}
use Rattle.crossbeam_queue.specs.Fifo.{Held}
use Rattle.tk_core.specs.declared.op.row.OpRow.{OpRow}
use Rattle.tk_core.specs.declared.resource.row.ResourceRow.{ResourceRow}
use Rattle.tk_core.specs.declared.task.row.TaskRow.{TaskRow}
use Rattle.tk_ids.specs.declared.info.Dropped.{Dropped}
use Rattle.tk_events.specs.declared.event.Event.{Event}
use Rattle.tk_events.specs.declared.event.Event.TheVariants as events
use Rattle.tk_events.specs.declared.item.Offer.{Offer}
use Rattle.tk_events.specs.Offers.{shown, offers_of}
use Rattle.tk_events.specs.Handles.{Taking, Totals, AreExact, AreLeft, AllTaken, IsSettled, events_of}
use Rattle.tk_core.specs.declared.times.row.TimesRow.{TimesRow}
use Rattle.tk_ledgers.specs.Handles.{KnownTimes, sight}
use Rattle.tk_ledgers.specs.Ops.{OpSight}
use Rattle.tk_ledgers.specs.Resources.{ResourceSight}
use Rattle.tk_ledgers.specs.Tasks.{TaskSight}
use Rattle.tk_ledgers.specs.Times.{TimesSight}
use Rattle.tk_aggregator.specs.declared.stream_error.StreamError.{StreamError}
use Rattle.tk_aggregator.specs.declared.stream_error.StreamError.TheVariants as errors
use Rattle.tk_stream.specs.declared.tables.op.Op.{Op}
use Rattle.tk_stream.specs.declared.tables.resource.Resource.{Resource}
use Rattle.tk_stream.specs.declared.tables.task.Task.{Task}
use Rattle.tk_aggregator.specs.Absorbing.{Step, infos_of, no_infos, absorb, infos_after, events_taken}
use Rattle.tk_stream.specs.Applied.{GoOn, BeginWith, times_kind, without_gone}
use Rattle.tk_stream.specs.Fronts.{with_rows, task_at, resource_at, op_at}
use Rattle.tk_stream.specs.Lines.{LineView, GoneView, none_gone}
use Rattle.tk_stream.specs.Places.{place_with}
use Rattle.tk_stream.specs.Polls.{counted}
use Rattle.tk_aggregator.specs.Readings.{task_ledger, resource_ledger, op_ledger, Reads, IsRead, OnlyReads, ReadAll, AreLater}
use Rattle.tk_stream.specs.Retention.{due_of}
use Rattle.tk_stream.specs.Spelling.{sent_text}
use Rattle.tk_stream.specs.Streams.{AreInRange, AreToldOf, Sending, line_sent, line_untimed}
use Rattle.tk_stream.specs.Tables.{TablesView, empty_tables, AreFit, staying, task_with, with_task, resource_with, with_resource, op_with, with_op}
use Rattle.tk_stream.specs.Sent.{IsCut}
use Rattle.tk_stream.specs.Times.{times_id, times_shown}
use Rattle.tk_aggregator.specs.Timing.{TimingView, no_timing, times_ledger, ReadTimes, ReadsTimes, ReadsTimesBeside, told_by, timing_without}

-- what contracts see of an aggregator
pub record Aggregating : Type 0 where
  -- the tables that it shows
  pub tables : TablesView
  -- the tables of the last whole line, and empty ones before any
  pub told : TablesView
  -- the handles that read the items of the tables, in their order
  pub tasks : List TaskSight
  pub resources : List ResourceSight
  pub ops : List OpSight
  -- an event that was taken, and found no memory
  pub held : Option Event
  -- the number of the last line, or the number that it goes on after
  pub last : ℕ
  -- the last line was cut off, and only a snapshot goes on
  pub broken : Bool
  -- how long a closed item stays, in nanoseconds, where lines say what is gone. Lines of version 1 don't, and nothing leaves
  pub retention : Option ℕ
  -- the histograms of poll times that it shows, has told and reads, where it does
  pub timing : TimingView

-- one that has told nothing, whose next line has the number after this one
abbrev pub new_aggregating : ℕ → Option ℕ → Aggregating
new_aggregating after retention = record {
  tables = empty_tables;
  told = empty_tables;
  tasks = [];
  resources = [];
  ops = [];
  held = None;
  last = after;
  broken = false;
  retention = retention;
  timing = no_timing false;
}

-- one that also reads histograms, and whose lines tell them
abbrev pub new_timed : ℕ → Option ℕ → Aggregating
new_timed after retention = record (new_aggregating after retention) { timing = no_timing true }

-- ---- what holds of every aggregator

-- a relation of each item and its handle, in order
abbrev pub Pairs : {Item Handle : Type 0} → (Item → Handle → Type 0) → List Item → List Handle → Type 0
Pairs P [] [] = Unit {0}
Pairs P (x ∷ xs) (s ∷ ss) = P x s × Pairs P xs ss
Pairs P [] (s ∷ ss) = ⊥
Pairs P (x ∷ xs) [] = ⊥

-- a handle is of the task, and read its row last, and has done nothing but read
abbrev pub ReadTask : Task → TaskSight → Type 0
ReadTask t s = (s.id ≡ t.info.id) × IsRead task_ledger s t.row × OnlyReads task_ledger s

-- a handle is of the resource, and read its row last, and has done nothing but read
abbrev pub ReadResource : Resource → ResourceSight → Type 0
ReadResource r s = (s.id ≡ r.info.id) × IsRead resource_ledger s r.row × OnlyReads resource_ledger s

-- a handle is of the async operation, and read its row last, and has done nothing but read
abbrev pub ReadOp : Op → OpSight → Type 0
ReadOp o s = (s.id ≡ o.info.id) × IsRead op_ledger s o.row × OnlyReads op_ledger s

-- each row and each histogram is the fold of a legal history of its ledger; the tables are fit, in range, and begin with those of the
-- last line; histograms are of their tasks, and begin with those that were told
pub record IsSound (a : Aggregating) : Type 0 where
  pub tasks : Pairs ReadTask a.tables.tasks a.tasks
  pub resources : Pairs ReadResource a.tables.resources a.resources
  pub ops : Pairs ReadOp a.tables.ops a.ops
  pub fit : AreFit a.tables
  pub in_range : AreInRange a.tables
  pub on : GoOn a.told a.tables
  -- the moment is that of the last whole line
  pub moment : a.tables.now ≡ a.told.now
  -- before line 1 nothing was told
  pub first : a.last ≡ 0 → a.told ≡ empty_tables
  pub numbered : a.last ≤ 2 ^ 63
  pub times : Pairs ReadTimes a.timing.shown a.timing.readers
  pub times_fit : AreToldOf a.tables a.timing.shown
  pub times_on : BeginWith times_kind a.timing.told a.timing.shown
  -- where no histogram is read there is none
  pub untimed : a.timing.reads ≡ false → a.timing ≡ no_timing false

-- the items of one aggregator are those of the other, now or later, and others may stand after them
pub record IsLaterOf (old new : Aggregating) : Type 0 where
  pub items : GoOn old.tables new.tables
  pub tasks : AreLater old.tasks new.tasks
  pub resources : AreLater old.resources new.resources
  pub ops : AreLater old.ops new.ops
  pub times : BeginWith times_kind old.timing.shown new.timing.shown
  pub readers : AreLater old.timing.readers new.timing.readers

-- the stream stands where it stood: the same was told, by the same last line, and items stay as long
pub record IsSameStream (old new : Aggregating) : Type 0 where
  pub told : new.told ≡ old.told
  pub last : new.last ≡ old.last
  pub broken : new.broken ≡ old.broken
  pub now : new.tables.now ≡ old.tables.now
  pub retention : new.retention ≡ old.retention
  pub reads : new.timing.reads ≡ old.timing.reads
  pub times_told : new.timing.told ≡ old.timing.told

-- ---- taking events in

-- a new task's histogram goes last, as its reader then reads it, where it has one and histograms are read
abbrev pub TakesTimes : ℕ → Option KnownTimes → TimingView → TimingView → Type 0
TakesTimes id None old new = new ≡ old
TakesTimes id (Some known) old new =
    MatchBool old.reads ((row : TimesRow) × (read : TimesSight) × Reads times_ledger (sight id known) row read
    × (new ≡ record old { shown = old.shown ++ (id, times_shown row) ∷ []; readers = old.readers ++ read ∷ [] })) (new ≡ old)

-- a new item goes last, with the row that its handle then reads, and a task with its histogram. One whose id is there changes nothing.
-- A poll operation is counted
abbrev pub TakesIn : Aggregating → Event → Aggregating → Type 0
TakesIn old (events.Task info handle) new =
    IfSome (task_with info.id old.tables.tasks) (λ there. new ≡ old)
    × IfNone (task_with info.id old.tables.tasks) ((row : TaskRow) × (read : TaskSight) × Reads task_ledger handle row read
    × (new ≡ record old { tables = with_task old.tables info row; tasks = old.tasks ++ read ∷ []; timing = new.timing })
    × TakesTimes info.id handle.times old.timing new.timing)
TakesIn old (events.Resource info handle) new =
    IfSome (resource_with info.id old.tables.resources) (λ there. new ≡ old)
    × IfNone (resource_with info.id old.tables.resources) ((row : ResourceRow) × (read : ResourceSight) × Reads resource_ledger handle row read
    × (new ≡ record old { tables = with_resource old.tables info row; resources = old.resources ++ read ∷ [] }))
TakesIn old (events.Op info handle) new =
    IfSome (op_with info.id old.tables.ops) (λ there. new ≡ old)
    × IfNone (op_with info.id old.tables.ops) ((row : OpRow) × (read : OpSight) × Reads op_ledger handle row read
    × (new ≡ record old { tables = with_op old.tables info row; ops = old.ops ++ read ∷ [] }))
TakesIn old (events.Poll op) new = new ≡ record old { tables = record old.tables { counts = counted op.resource op.ready old.tables.counts } }

-- events are taken in, one after the other
abbrev pub TakesAllIn : Aggregating → List Event → Aggregating → Type 0
TakesAllIn old [] new = new ≡ old
TakesAllIn old (e ∷ es) new = (next : Aggregating) × TakesIn old e next × TakesAllIn next es new

-- the event that is held, if any
abbrev pub held_events : Option Event → List Event
held_events None = []
held_events (Some e) = e ∷ []

-- one that holds nothing
abbrev pub free : Aggregating → Aggregating
free a = record a { held = None }

-- events came from the taker, and these were taken in, a held one first; what is left of them is held
pub record Gathers (old : Aggregating) (before : Taking) (taken : List Event) (new : Aggregating) (after : Taking) : Type 0 where
  pub came : List Event
  pub offers : List Offer
  pub are_offered : map (λ (o : Offer). o.event) offers ≡ map shown came
  pub taker : after ≡ record before { taken = before.taken ++ offers }
  pub in_order : held_events old.held ++ came ≡ taken ++ held_events new.held
  pub taken_in : TakesAllIn (free old) taken (free new)

-- the totals as tables have them
abbrev pub dropped_in : Totals → Dropped
dropped_in t = record { tasks = t.tasks; resources = t.resources; ops = t.ops }

-- the taker told its totals of dropped events, of which none falls, and which are exact once it is finished
pub record TellsTotals (before after : Taking) : Type 0 where
  pub same : after ≡ record before { last = after.last }
  pub tasks : before.last.tasks ≤ after.last.tasks
  pub resources : before.last.resources ≤ after.last.resources
  pub ops : before.last.ops ≤ after.last.ops
  pub exact : before.finished ≡ true → AreExact before.known after.last.tasks after.last.resources after.last.ops

-- the buffer was empty at a moment of the call, and so nothing is left once the taker is finished
pub record WasEmpty (t : Taking) : Type 0 where
  pub held : Held 0 (λ items. AreLeft t (offers_of items))
  pub all : AllTaken t
  pub settled : t.finished ≡ true → IsSettled t

-- the next event: the held one, or one that the taker took
pub record Comes (old : Aggregating) (before : Taking) (event : Event) (new : Aggregating) (after : Taking) : Type 0 where
  pub came : List Event
  pub offers : List Offer
  pub are_offered : map (λ (o : Offer). o.event) offers ≡ map shown came
  pub taker : after ≡ record before { taken = before.taken ++ offers }
  pub in_order : held_events old.held ++ came ≡ event ∷ []
  pub now : new ≡ free old

-- `count` events were taken in, at most `limit`, and fewer only where the buffer was empty. None is held then; with limit 0
-- nothing changes
pub record GathersUpTo (old : Aggregating) (before : Taking) (limit count : ℕ) (new : Aggregating) (after : Taking) : Type 0 where
  pub taken : List Event
  pub gathers : Gathers old before taken new after
  pub counts : length taken ≡ count
  pub within : count ≤ limit
  pub all : count < limit → WasEmpty after
  pub none_held : 0 < limit → new.held ≡ None
  pub nothing : limit ≡ 0 → (new ≡ old) × (after ≡ before)

-- so many events were taken in, and then the totals are the taker's
pub record Collects (old : Aggregating) (before : Taking) (limit count : ℕ) (new : Aggregating) (after : Taking) : Type 0 where
  pub gathered : Aggregating
  pub taker : Taking
  pub gathering : GathersUpTo old before limit count gathered taker
  pub totals : TellsTotals taker after
  pub now : new ≡ record gathered { tables = record gathered.tables { dropped = dropped_in after.last } }

-- memory ran out: some events were taken in, and the next one, which the limit allows too, is held. Totals stay
pub record RunsOut (old : Aggregating) (before : Taking) (limit : ℕ) (new : Aggregating) (after : Taking) : Type 0 where
  pub taken : List Event
  pub gathers : Gathers old before taken new after
  pub within : length taken < limit
  pub held : Event
  pub is_held : new.held ≡ Some held

-- the taker may have taken more. Otherwise it is the same: of its console, and finished as it was
pub record TookMore (before after : Taking) : Type 0 where
  pub console : after.console ≡ before.console
  pub capacity : after.capacity ≡ before.capacity
  pub recorders : after.recorders ≡ before.recorders
  pub known : after.known ≡ before.known
  pub finished : after.finished ≡ before.finished

-- an aggregator follows a taker: its infos and poll counts are those after a course that took in what was taken, in order, but
-- for the held event, which is the last. Where lines don't say what is gone, nothing left in it
pub record FollowsTaker (a : Aggregating) (t : Taking) : Type 0 where
  pub steps : List Step
  pub events : events_of t ≡ events_taken steps ++ map shown (held_events a.held)
  pub infos : infos_of a.tables ≡ infos_after steps
  pub whole : a.retention ≡ None → infos_of a.tables ≡ absorb no_infos (events_taken steps)

-- ---- reading

-- each handle of a task read once, and what it read is the row of its task; nothing else changed
abbrev pub ReadsTasks : Aggregating → Aggregating → Type 0
ReadsTasks old new = (rows : List TaskRow) × ReadAll task_ledger old.tasks rows new.tasks
    × (new ≡ record old { tables = record old.tables { tasks = with_rows task_at old.tables.tasks rows }; tasks = new.tasks })

-- each handle of a resource read once, and what it read is the row of its resource; nothing else changed
abbrev pub ReadsResources : Aggregating → Aggregating → Type 0
ReadsResources old new = (rows : List ResourceRow) × ReadAll resource_ledger old.resources rows new.resources
    × (new ≡ record old { tables = record old.tables { resources = with_rows resource_at old.tables.resources rows }; resources = new.resources })

-- each handle of an async operation read once, and what it read is the row of its operation; nothing else changed
abbrev pub ReadsOps : Aggregating → Aggregating → Type 0
ReadsOps old new = (rows : List OpRow) × ReadAll op_ledger old.ops rows new.ops
    × (new ≡ record old { tables = record old.tables { ops = with_rows op_at old.tables.ops rows }; ops = new.ops })

-- each histogram was read once, where they are read; nothing else changed
abbrev pub ReadsHistograms : Aggregating → Aggregating → Type 0
ReadsHistograms old new = ReadsTimes old.timing new.timing × (new ≡ record old { timing = new.timing })

-- the histogram of an owner's task was read beside the owner, if there is one; nothing else changed
abbrev pub ReadsHistogramBeside : TimesSight → Aggregating → Aggregating → Type 0
ReadsHistogramBeside owner old new = ReadsTimesBeside owner old.timing new.timing (place_with times_id owner.id old.timing.shown) × (new ≡ record old { timing = new.timing })

-- each handle read once, and what it read is the row of its item, or its histogram; nothing else changed
pub record Refreshes (old new : Aggregating) : Type 0 where
  pub task_rows : List TaskRow
  pub resource_rows : List ResourceRow
  pub op_rows : List OpRow
  pub tasks : ReadAll task_ledger old.tasks task_rows new.tasks
  pub resources : ReadAll resource_ledger old.resources resource_rows new.resources
  pub ops : ReadAll op_ledger old.ops op_rows new.ops
  pub times : ReadsTimes old.timing new.timing
  pub now : new ≡ record old {
    tables = record old.tables {
      tasks = with_rows task_at old.tables.tasks task_rows;
      resources = with_rows resource_at old.tables.resources resource_rows;
      ops = with_rows op_at old.tables.ops op_rows;
    };
    tasks = new.tasks;
    resources = new.resources;
    ops = new.ops;
    timing = new.timing;
  }

-- ---- what leaves

-- the items that are due at this moment, and none where nothing may leave
abbrev pub due_at : Option ℕ → TablesView → ℕ → GoneView
due_at None told now = none_gone
due_at (Some retention) told now = due_of told now retention

-- the items that leave with the line of this moment. A snapshot removes nothing
abbrev pub leaving_at : Bool → Aggregating → ℕ → GoneView
leaving_at snapshot a now = if snapshot then none_gone else due_at a.retention a.told now

-- one without these items. Their handles are let go
abbrev pub without : Aggregating → GoneView → Aggregating
without a gone = record a {
  tables = without_gone a.tables gone;
  tasks = staying (λ (s : TaskSight). s.id) gone.tasks a.tasks;
  resources = staying (λ (s : ResourceSight). s.id) gone.resources a.resources;
  ops = staying (λ (s : OpSight). s.id) gone.ops a.ops;
  timing = timing_without gone.tasks a.timing;
}

-- one without the items that are due at this moment, as the last whole line's tables have them
abbrev pub pruned : Option ℕ → Aggregating → ℕ → Aggregating
pruned None a now = a
pruned (Some retention) a now = without a (due_of a.told now retention)

-- what a line of this moment leaves there. A snapshot removes nothing
abbrev pub left_at : Bool → Aggregating → ℕ → Aggregating
left_at snapshot a now = if snapshot then a else pruned a.retention a now

-- ---- lines

-- the tables of a line at this moment, as a snapshot or not
abbrev pub tables_at : Bool → Aggregating → ℕ → TablesView
tables_at snapshot a now = record (left_at snapshot a now).tables { now = now }

-- what is sent at this moment: the next line
abbrev pub sending_at : Bool → Aggregating → ℕ → Sending
sending_at snapshot a now = record { tables = tables_at snapshot a now; seq = a.last + 1; snapshot = snapshot; removes = is_some a.retention; told = told_by snapshot a.timing (leaving_at snapshot a now).tasks }

-- that line: it leads on from what was told, or is a snapshot
abbrev pub line_at : Bool → Aggregating → ℕ → LineView
line_at snapshot a now = line_sent a.told (sending_at snapshot a now)

-- that line without histograms
abbrev pub untimed_at : Bool → Aggregating → ℕ → LineView
untimed_at snapshot a now = line_untimed a.told (sending_at snapshot a now)

-- one that has told all of its tables and histograms at this moment, by the next line
abbrev pub having_told : Aggregating → ℕ → Aggregating
having_told a now = record a { tables = record a.tables { now = now }; told = record a.tables { now = now }; last = a.last + 1; broken = false; timing = record a.timing { told = a.timing.shown } }

-- what stands after the line of this moment
abbrev pub after_line : Bool → Aggregating → ℕ → Aggregating
after_line snapshot a now = having_told (left_at snapshot a now) now

-- a line may go on: it isn't broken, or a snapshot
abbrev pub MayGoOn : Bool → Aggregating → Type 0
MayGoOn snapshot a = snapshot ≡ false → a.broken ≡ false

-- a line is due: it may go on, its moment isn't below the last one's, and there is a number for it
pub record IsDue (snapshot : Bool) (a : Aggregating) (now : ℕ) : Type 0 where
  pub goes_on : MayGoOn snapshot a
  pub moment : a.tables.now ≤ now
  pub number : a.last < 2 ^ 63

-- why no line was written, and what stands then. Only a fault of the writer changes something: a proper front of line and
-- line end went out, and only a snapshot goes on
abbrev pub Refuses : StreamError → Bool → Aggregating → ℕ → Aggregating → Option (List ℕ) → Option (List ℕ) → Type 0
Refuses errors.Broken snapshot old now new before after = (new ≡ old) × (after ≡ before) × (snapshot ≡ false) × (old.broken ≡ true)
Refuses errors.Clock snapshot old now new before after = (new ≡ old) × (after ≡ before) × MayGoOn snapshot old × (now < old.tables.now)
Refuses errors.NumbersSpent snapshot old now new before after = (new ≡ old) × (after ≡ before) × MayGoOn snapshot old × (old.tables.now ≤ now) × (old.last ≡ 2 ^ 63)
Refuses errors.Memory snapshot old now new before after = (new ≡ old) × (after ≡ before) × IsDue snapshot old now
Refuses errors.WriteFault snapshot old now new before after = (new ≡ record old { broken = true }) × IsDue snapshot old now
    × ((front : List ℕ) × IsCut (sent_text (line_at snapshot old now)) front × Appends before after front)
