-- All warnings of tables: the usual ones, and the long polls and long waits that are asked for.
use Rattle.std.specs.Prelude.{ℕ, List, ◌++◌, map, option_and_then, Option, None}
use Rattle.std.specs.List.{flat_map}
use Rattle.std.specs.Option.{option_to_list}
use Rattle.tk_stream.specs.declared.tables.task.Task.{Task}
use Rattle.tk_stream.specs.Tables.{TablesView}
use Rattle.tk_stream.specs.Times.{TaskTimes}
use Rattle.tk_client.specs.declared.any_warnings.AnyWarning.{AnyWarning}
use Rattle.tk_client.specs.declared.any_warnings.AnyWarning.TheVariants as any
use Rattle.tk_client.specs.declared.any_warnings.TimeLimits.{TimeLimits}
use Rattle.tk_client.specs.declared.long_polls.LongPoll.{LongPoll}
use Rattle.tk_client.specs.declared.long_waits.LongWait.{LongWait}
use Rattle.tk_client.specs.LongPolls.{long_poll_of}
use Rattle.tk_client.specs.LongWaits.{long_wait_of}
use Rattle.tk_client.specs.Warnings.{LintsView, warnings_of}

-- neither long polls nor long waits are asked for
abbrev pub no_limits : TimeLimits
no_limits = record { poll_ms = None; wait_ms = None }

-- the long poll of a task, where long polls are asked for
abbrev pub long_poll_asked : TimeLimits → ℕ → List TaskTimes → Task → Option LongPoll
long_poll_asked limits now times t = option_and_then (λ limit. long_poll_of limit now times t) limits.poll_ms

-- the long wait of a task, where long waits are asked for
abbrev pub long_wait_asked : TimeLimits → ℕ → List TaskTimes → Task → Option LongWait
long_wait_asked limits now times t = option_and_then (λ limit. long_wait_of limit now times t) limits.wait_ms

-- all warnings of a task: its long poll and its long wait come last
abbrev pub all_warnings_of : LintsView → TimeLimits → ℕ → List TaskTimes → Task → List AnyWarning
all_warnings_of lints limits now times t =
    map any.Usual (warnings_of lints now t)
    ++ (map any.LongPoll (option_to_list (long_poll_asked limits now times t))
    ++ map any.LongWait (option_to_list (long_wait_asked limits now times t)))

-- all warnings of tables: those of each task, in table order
abbrev pub all_warnings_in : LintsView → TimeLimits → TablesView → List TaskTimes → List AnyWarning
all_warnings_in lints limits tables times = flat_map (all_warnings_of lints limits tables.now times) tables.tasks
