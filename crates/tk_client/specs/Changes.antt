-- What a line changed, said of what stood before it and of what stands after it. How the line says it is no matter here.
use Rattle.std.specs.Prelude.{◌≡◌, ℕ, List, [], ◌++◌, map, filter, Bool, true, false, not, is_some, Option, option_map}
use Rattle.std.specs.List.{IsDistinct, list_all}
use Rattle.std.specs.Prelude.{nat_eq}
use Rattle.tk_stream.specs.declared.tables.task.Task.{Task}
use Rattle.tk_stream.specs.declared.tables.times.PollTimes.{PollTimes}
use Rattle.tk_stream.specs.Applied.{still_there}
use Rattle.tk_stream.specs.Lines.{task_info}
use Rattle.tk_stream.specs.Tables.{TablesView, empty_tables, task_id, task_with, item_with, is_among}
use Rattle.tk_stream.specs.Times.{TaskTimes, times_id}
use Rattle.tk_client.specs.Meaning.{Start}
use Rattle.tk_client.specs.declared.change.LeftTask.{LeftTask}

-- tables, and the histograms that stand beside them
abbrev pub Timed : Type 0
Timed = TablesView × List TaskTimes

-- before the first line there are none
abbrev pub untimed : Timed
untimed = (empty_tables, [])

-- what a client shows that has come to a start
abbrev pub timed_in : Start → Timed
timed_in s = (s.tables, s.times)

-- whether tables have a task
abbrev pub has_task : TablesView → ℕ → Bool
has_task tables id = is_some (task_with id tables.tasks)

-- whether a task is one of those with these ids
abbrev pub is_one_of : List ℕ → Task → Bool
is_one_of ids t = is_among ids t.info.id

-- the tasks that tables have, and others don't
abbrev pub tasks_beside : TablesView → TablesView → List Task
tasks_beside tables others = filter (λ (t : Task). not (has_task others t.info.id)) tables.tasks

-- a task that has left, as it was last shown, with the histogram that stood beside the tables then
abbrev pub left_as : List TaskTimes → Task → LeftTask
left_as times t = record { task = t; times = option_map (λ (x : TaskTimes). x.1) (item_with times_id t.info.id times) }

-- the id of a task that has left
abbrev pub left_id : LeftTask → ℕ
left_id left = left.task.info.id

-- which tasks came, which the line tells of, which left, and whether all stands anew
pub record ChangeView : Type 0 where
  pub came : List ℕ
  pub told : List ℕ
  pub left : List LeftTask
  pub anew : Bool

-- a task is as it was: its info, its row, and its histogram
pub record IsSame (before after : Timed) (id : ℕ) : Type 0 where
  pub task : task_with id after.0.tasks ≡ task_with id before.0.tasks
  pub times : item_with times_id id after.1 ≡ item_with times_id id before.1

-- what changed from tables and histograms to the next ones
pub record IsChange (before after : Timed) (change : ChangeView) : Type 0 where
  -- the tasks that are there now and weren't before came, in their order
  pub came : change.came ≡ map task_id (tasks_beside after.0 before.0)
  -- those that were there and aren't now left, in the order in which they stood
  pub left : change.left ≡ map (left_as before.1) (tasks_beside before.0 after.0)
  -- each task that is told of is there now
  pub there : list_all (has_task after.0) change.told ≡ true
  -- none is named twice
  pub once : IsDistinct nat_eq change.told
  -- a task that is there now and isn't told of is as it was
  pub same : (id : ℕ) → is_among change.told id ≡ false → has_task after.0 id ≡ true → IsSame before after id
  -- unless all stands anew, those that stay keep their order and their infos, and those that came stand behind them
  pub order : change.anew ≡ false → map task_info after.0.tasks ≡ map task_info (still_there task_id before.0.tasks after.0.tasks) ++ map task_info (tasks_beside after.0 before.0)

-- what changed from tables to the next ones, whatever histograms stood beside them
pub record Leads (before after : TablesView) (change : ChangeView) : Type 0 where
  pub times_before : List TaskTimes
  pub times_after : List TaskTimes
  pub is : IsChange (before, times_before) (after, times_after) change
