-- How a line says what it changes. No public clause cites this.
use Rattle.std.specs.Prelude.{◌≡◌, ℕ, List, ◌++◌, map, filter, Bool, not, if◌then◌else◌, nat_eq, option_map, slice_get, Option, IfSome, Result, Ok, Err}
use Rattle.std.specs.List.{IsDistinct}
use Rattle.std.specs.Option.{option_to_list}
use Rattle.tk_stream.specs.declared.tables.task.Task.{Task}
use Rattle.tk_stream.specs.Applied.{task_kind, times_after}
use Rattle.tk_stream.specs.Lines.{LineView, gone_of, times_of}
use Rattle.tk_stream.specs.Tables.{TablesView, is_among}
use Rattle.tk_stream.specs.Times.{TaskTimes, times_id}
use Rattle.tk_client.specs.Applying.{stats_id_by}
use Rattle.tk_client.specs.declared.change.LeftTask.{LeftTask}
use Rattle.tk_client.specs.declared.fault.FeedError.{FeedError}
use Rattle.tk_client.specs.Changes.{ChangeView, Timed, has_task, is_one_of, left_as, timed_in}
use Rattle.tk_client.specs.Feeding.{ClientView, StoppedInLine, TookLine}
use Rattle.tk_client.specs.Meaning.{base_of, times_base}
use Rattle.tk_client.specs.Taking.{line_checked, new_id}

-- whether tables haven't a task
abbrev pub is_away : TablesView → ℕ → Bool
is_away tables id = not (has_task tables id)

-- the tasks of which a line tells a row, and those of which it tells a histogram
abbrev pub told_by : LineView → List ℕ
told_by l = map (stats_id_by task_kind) l.task_stats ++ map times_id (times_of l)

-- whether a task is none of these
abbrev pub is_beside : List ℕ → Task → Bool
is_beside ids t = not (is_among ids t.info.id)

-- whether a line takes a task out of the tables: it says that it is gone, or is a snapshot without it
abbrev pub leaves_by : LineView → Task → Bool
leaves_by l t = if l.snapshot then is_beside (map new_id l.new_tasks) t else is_one_of (gone_of l).tasks t

-- the task at a place, if there is one, as it was last shown
abbrev pub left_at : List TaskTimes → List Task → ℕ → List LeftTask
left_at times tasks place = option_to_list (option_map (left_as times) (slice_get tasks place))

-- what a line says that it changes in tables with these histograms
pub record ChangedBy (old : TablesView) (times : List TaskTimes) (l : LineView) (change : ChangeView) : Type 0 where
  pub came : change.came ≡ filter (is_away old) (map new_id l.new_tasks)
  pub told : (id : ℕ) → is_among change.told id ≡ is_among (told_by l) id
  pub once : IsDistinct nat_eq change.told
  pub left : change.left ≡ map (left_as times) (filter (leaves_by l) old.tasks)
  pub anew : change.anew ≡ l.snapshot

-- what was noted of a line, which led from tables and histograms to the next
pub record Noted {N : Type 0} (says : TablesView → List TaskTimes → LineView → N → Type 0) (before after : Timed) (note : N) : Type 0 where
  pub line : LineView
  pub said : says before.0 before.1 line note
  pub applied : line_checked (base_of before.0 line) line ≡ Ok after.0
  pub times : after.1 ≡ times_after (times_base before.1 line) line

-- what one step over bytes did: the first line of them was taken, and what is noted of it; or feeding stopped in it
abbrev pub Steps : {N : Type 0} → (TablesView → List TaskTimes → LineView → N → Type 0) → ClientView → List ℕ → Result (Option N × ℕ) FeedError → ClientView → Type 0
Steps says old bytes (Ok step) new = TookLine old bytes step.0 step.1 new × IfSome step.0 (Noted says (timed_in old.start) (timed_in new.start))
Steps says old bytes (Err e) new = StoppedInLine old bytes e new
