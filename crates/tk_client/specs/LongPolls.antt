-- Which tasks have a long poll.
use Rattle.std.specs.Prelude.{ℕ, ◌*◌, List, Bool, ◌&&◌, max, nat_le, Option, Some, None, if◌then◌else◌}
use Rattle.std.specs.List.{flat_map}
use Rattle.std.specs.Option.{option_map_or, option_to_list}
use Rattle.tk_core.specs.Lasting.{runs_for}
use Rattle.tk_stream.specs.declared.tables.task.Task.{Task}
use Rattle.tk_stream.specs.Tables.{TablesView, item_with}
use Rattle.tk_stream.specs.Times.{TaskTimes, times_id}
use Rattle.tk_client.specs.declared.long_polls.LongPoll.{LongPoll}
use Rattle.tk_client.specs.Warnings.{is_spawn}

-- how long the longest of a task's ended polls ran, as its histogram says; 0 where it has none
abbrev pub longest_ended : List TaskTimes → ℕ → ℕ
longest_ended times id = option_map_or (λ (t : TaskTimes). t.1.longest) (item_with times_id id times) 0

-- how long a task's longest poll ran: of those that ended, and of the one that runs, as far as it has run
abbrev pub longest_run : ℕ → List TaskTimes → Task → ℕ
longest_run now times t = max (longest_ended times t.info.id) (runs_for t.row now)

-- a poll of the task ran for so many milliseconds, or longer. Only tasks of kind spawn are warned of
abbrev pub has_long_poll : ℕ → ℕ → List TaskTimes → Task → Bool
has_long_poll limit now times t = is_spawn t.info.kind && nat_le (limit * 1000000) (longest_run now times t)

-- the long poll of a task, where it has one
abbrev pub long_poll_of : ℕ → ℕ → List TaskTimes → Task → Option LongPoll
long_poll_of limit now times t =
    if has_long_poll limit now times t then Some (record { task = t.info.id; time = longest_run now times t }) else None

-- the long polls of tables, in table order
abbrev pub long_polls_in : ℕ → TablesView → List TaskTimes → List LongPoll
long_polls_in limit tables times = flat_map (λ t. option_to_list (long_poll_of limit tables.now times t)) tables.tasks
