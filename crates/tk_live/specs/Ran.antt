-- What came of commands.
use Rattle.std.specs.Prelude.{◌≡◌, ℕ, ◌+◌, ◌<◌, ◌==◌, nat_le, List, [], ◌∷◌, length, map, take, slice_get, fold, count_by, Bool, true, false, not, if◌then◌else◌, Option, Some, None, is_some}
use Rattle.std.specs.List.{AllByRecursion, enumerate_from, between, items_where_true}
use Rattle.tk_ids.specs.Ids.{id_of}
use Rattle.tk_ids.specs.declared.info.Dropped.{Dropped}
use Rattle.tk_ledgers.specs.Times.{runs_of}
use Rattle.tk_stream.specs.Applied.{times_after}
use Rattle.tk_stream.specs.Streams.{Sending, GoesOn, gone_by, line_sent, lines_sent, bytes_sent}
use Rattle.tk_stream.specs.Lines.{GoneView, none_gone, told_times}
use Rattle.tk_stream.specs.Retention.{due_of}
use Rattle.tk_stream.specs.Tables.{TablesView, empty_tables, task_id}
use Rattle.tk_stream.specs.Times.{TaskTimes, times_id}
use Rattle.tk_stream.specs.declared.tables.op.Op.{Op}
use Rattle.tk_stream.specs.declared.tables.resource.Resource.{Resource}
use Rattle.tk_stream.specs.declared.tables.task.Task.{Task}
use Rattle.tk_aggregator.specs.Absorbing.{Infos, infos_of, with_told, infos_without}
use Rattle.tk_aggregator.specs.Timing.{times_of}
use Rattle.tk_aggregator.specs.Contents.{Content, made_task, made_resource, made_op, polled}
use Rattle.tk_live.specs.Course.{Due, Course, start_of_all, course_of}
use Rattle.tk_live.specs.Named.{made_item}
use Rattle.tk_live.specs.Pasts.{TaskPast, ResourcePast, OpPast, Pasts, IsTaskRow, IsResourceRow, IsOpRow, outside_blocks}
use Rattle.tk_live.specs.Stops.{AllGo}
use Rattle.tk_script.specs.Commands.{Line}
use Rattle.tk_script.specs.declared.settings.Settings.{Settings}

-- infos and poll counts with what was told more, in order
abbrev pub infos_with : Infos → List Content → Infos
infos_with infos told = fold with_told infos told

-- where what was recorded counts if it is dropped: 0 for a task, 1 for a resource and its poll operations, 2 for an async operation
abbrev pub dropped_as : Content → ℕ
dropped_as (made_task info) = 0
dropped_as (made_resource info) = 1
dropped_as (made_op info) = 2
dropped_as (polled resource ready) = 1

-- the totals of what was recorded and dropped
abbrev pub dropped_of : List Content → Dropped
dropped_of lost = record {
  tasks = count_by (λ c. dropped_as c == 0) lost;
  resources = count_by (λ c. dropped_as c == 1) lost;
  ops = count_by (λ c. dropped_as c == 2) lost;
}

-- a task of a table is the one of its id's number, and its row is that of what was called on it
pub record IsCalledTask (ps : Pasts) (t : Task) : Type 0 where
  pub number : ℕ
  pub id : t.info.id ≡ id_of 1 number
  pub past : TaskPast
  pub is_past : made_item number ps.tasks ≡ Some past
  pub row : IsTaskRow past t.row

-- a resource of a table is the one of its id's number, and its row is that of what was called on it
pub record IsCalledResource (ps : Pasts) (r : Resource) : Type 0 where
  pub number : ℕ
  pub id : r.info.id ≡ id_of 1 number
  pub past : ResourcePast
  pub is_past : made_item number ps.resources ≡ Some past
  pub row : IsResourceRow past r.row

-- an async operation of a table is the one of its id's number, and its row is that of what was called on it
pub record IsCalledOp (ps : Pasts) (o : Op) : Type 0 where
  pub number : ℕ
  pub id : o.info.id ≡ id_of 1 number
  pub past : OpPast
  pub is_past : made_item number ps.ops ≡ Some past
  pub row : IsOpRow past o.row

-- each row of tables is that of what was called on its item
pub record AreCalled (ps : Pasts) (tables : TablesView) : Type 0 where
  pub tasks : AllByRecursion (IsCalledTask ps) tables.tasks
  pub resources : AllByRecursion (IsCalledResource ps) tables.resources
  pub ops : AllByRecursion (IsCalledOp ps) tables.ops

-- what leaves with a line after these tables: with a retention, what they show closed for long enough. With a snapshot nothing
-- leaves
abbrev pub leaving : Option ℕ → TablesView → Sending → GoneView
leaving None before s = none_gone
leaving (Some retention) before s = if s.snapshot then none_gone else due_of before s.tables.now retention

-- the histograms from which a line goes on: those of the line before, and none where it is a snapshot
abbrev pub times_before : List TaskTimes → Sending → List TaskTimes
times_before had s = if s.snapshot then [] else had

-- the histograms that a line leads to
abbrev pub times_led_to : List TaskTimes → TablesView → Sending → List TaskTimes
times_led_to had before s = times_after (times_before had s) (line_sent before s)

-- a histogram is that of the polls of the task of its id's number: of how long each ran that the text has it make, and of nothing else
pub record IsPolledTask (ps : Pasts) (t : TaskTimes) : Type 0 where
  pub number : ℕ
  pub id : times_id t ≡ id_of 1 number
  pub past : TaskPast
  pub is_past : made_item number ps.tasks ≡ Some past
  pub times : t.1 ≡ times_of (runs_of (outside_blocks past.called))

-- a line leads to one histogram of each of its tasks, in their order, and tells those that are new since the line before, or others now.
-- Each is that of the polls that the text makes before the line
pub record AreTimesOf (ps : Pasts) (before : TablesView) (had : List TaskTimes) (s : Sending) : Type 0 where
  pub told : s.told ≡ Some (told_times (times_before had s) (times_led_to had before s))
  pub one_each : map times_id (times_led_to had before s) ≡ map task_id s.tables.tasks
  pub polls : AllByRecursion (IsPolledTask ps) (times_led_to had before s)

-- a line tells histograms where tasks have such, and otherwise none
abbrev pub TellsTimes : Bool → Pasts → TablesView → List TaskTimes → Sending → Type 0
TellsTimes true ps before had s = AreTimesOf ps before had s
TellsTimes false ps before had s = s.told ≡ None

-- a line is one that was due: at its moment, a snapshot or not, one that says what is gone where closed items leave, and with histograms
-- where tasks have such. After the tables of the line before it has their infos and poll counts and those of all that was recorded and
-- kept since, but for the items that leave, and where it says what is gone, it says just these. Its totals of dropped events are those of
-- all that was recorded before it and lost. Each row is that of the calls that the text makes before the line
pub record IsLineOf (settings : Settings) (before : TablesView) (had : List TaskTimes) (since lost : List Content) (d : Due) (s : Sending) : Type 0 where
  pub moment : s.tables.now ≡ d.moment
  pub snapshot : s.snapshot ≡ d.whole
  pub removes : s.removes ≡ is_some settings.retention
  pub infos : infos_of s.tables ≡ infos_without (leaving settings.retention before s) (infos_with (infos_of before) since)
  pub gone : s.removes ≡ true → gone_by before s ≡ leaving settings.retention before s
  pub dropped : s.tables.dropped ≡ dropped_of lost
  pub rows : AreCalled d.pasts s.tables
  pub times : TellsTimes settings.times d.pasts before had s

-- what was kept of the recordings from one number of them to another. `kept` says of each whether its event was kept
abbrev pub kept_between : List Bool → List Content → ℕ → ℕ → List Content
kept_between kept told from to = items_where_true (between from to kept) (between from to told)

-- what wasn't kept of so many recordings, from the first on
abbrev pub lost_first : List Bool → List Content → ℕ → List Content
lost_first kept told to = items_where_true (map not (take to kept)) (take to told)

-- the lines that were sent, one for each that was due, in order, after these tables and histograms, and as many recordings
abbrev pub AreLinesOf : Settings → List Bool → List Content → TablesView → List TaskTimes → ℕ → List Due → List Sending → Type 0
AreLinesOf settings kept told before had from [] [] = Unit {0}
AreLinesOf settings kept told before had from (d ∷ due) (s ∷ sent) =
    IsLineOf settings before had (kept_between kept told from d.recorded) (lost_first kept told d.recorded) d s × AreLinesOf settings kept told s.tables (times_led_to had before s) d.recorded due sent
AreLinesOf settings kept told before had from _ _ = ⊥

-- how many recordings there were before the last line that was due before the recording at a place, and so many if none was
abbrev pub recorded_before : ℕ → List Due → ℕ → ℕ
recorded_before from [] place = from
recorded_before from (d ∷ due) place = if nat_le d.recorded place then recorded_before d.recorded due place else from

-- the lines that were sent tell of what was recorded, where `kept` says of each recording whether its event was kept. So each was of the
-- first after a line, and of the first of all, as many as the console holds. And the lines are an uninterrupted stream from number 1
pub record TellOf (settings : Settings) (told : List Content) (due : List Due) (kept : List Bool) (sent : List Sending) : Type 0 where
  pub one_each : length kept ≡ length told
  pub first : (i : ℕ) → i < length kept → i < recorded_before 0 due i + settings.capacity → slice_get kept i ≡ Some true
  pub lines : AreLinesOf settings kept told empty_tables [] 0 due sent
  pub stream : GoesOn empty_tables 0 sent

-- what came of commands
abbrev pub IsStreamOf : Settings → Course → List Bool → List Sending → Type 0
IsStreamOf settings c kept sent = TellOf settings c.told c.due kept sent

-- the text stops none of the lines, no block is open after them, and this came of them
pub record RunsThrough (settings : Settings) (ls : List Line) (sent : List Sending) : Type 0 where
  pub goes : AllGo start_of_all (enumerate_from 1 ls)
  pub closed : (course_of ls).block ≡ None
  pub kept : List Bool
  pub came : IsStreamOf settings (course_of ls) kept sent

-- the bytes of lines from number 1
abbrev pub written_by : List Sending → List ℕ
written_by sent = bytes_sent (lines_sent empty_tables sent)
