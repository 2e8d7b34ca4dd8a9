-- Which tasks have a long wait.
use Rattle.std.specs.Prelude.{ℕ, ◌*◌, List, Bool, ◌&&◌, max, nat_le, Option, Some, None, if◌then◌else◌}
use Rattle.std.specs.Option.{option_map_or}
use Rattle.tk_core.specs.Lasting.{waits_for}
use Rattle.tk_stream.specs.declared.tables.task.Task.{Task}
use Rattle.tk_stream.specs.declared.tables.times.PollTimes.{PollTimes}
use Rattle.tk_stream.specs.declared.tables.times.WaitTimes.{WaitTimes}
use Rattle.tk_stream.specs.Tables.{item_with}
use Rattle.tk_stream.specs.Times.{TaskTimes, times_id}
use Rattle.tk_client.specs.declared.long_waits.LongWait.{LongWait}
use Rattle.tk_client.specs.Warnings.{is_spawn}

-- how long the longest wait took that a histogram of waits has; 0 where there is none
abbrev pub longest_of : PollTimes → ℕ
longest_of times = option_map_or (λ (w : WaitTimes). w.longest) times.waits 0

-- how long the longest of a task's ended waits took, as its histogram says; 0 where it has none
abbrev pub longest_ended : List TaskTimes → ℕ → ℕ
longest_ended times id = option_map_or (λ (t : TaskTimes). longest_of t.1) (item_with times_id id times) 0

-- how long a task's longest wait took: of those that ended, and of the one that lasts, as far as it has lasted
abbrev pub longest_wait : ℕ → List TaskTimes → Task → ℕ
longest_wait now times t = max (longest_ended times t.info.id) (waits_for t.row now)

-- a wait of the task took so many milliseconds, or longer. Only tasks of kind spawn are warned of
abbrev pub has_long_wait : ℕ → ℕ → List TaskTimes → Task → Bool
has_long_wait limit now times t = is_spawn t.info.kind && nat_le (limit * 1000000) (longest_wait now times t)

-- the long wait of a task, where it has one
abbrev pub long_wait_of : ℕ → ℕ → List TaskTimes → Task → Option LongWait
long_wait_of limit now times t =
    if has_long_wait limit now times t then Some (record { task = t.info.id; time = longest_wait now times t }) else None
