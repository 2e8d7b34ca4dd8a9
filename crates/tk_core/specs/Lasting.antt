-- What lasts at a moment: the poll that runs, and the wait of a task that waits for one. And what comes of it with what has ended.
use Rattle.std.specs.Prelude.{ℕ, ◌+◌, ◌-◌, Bool, Option, unwrap_or, if◌then◌else◌}
use Rattle.std.specs.Option.{option_map_or}
use Rattle.tk_core.specs.Lists.{capped}
use Rattle.tk_core.specs.Task.{lasting, waited_until, wait_ended_by}
use Rattle.tk_core.specs.declared.op.row.OpRow.{OpRow}
use Rattle.tk_core.specs.declared.task.row.TaskRow.{TaskRow}

-- how long a poll has run by a moment that is open since a start; 0 where none is open
abbrev pub open_for : Bool → Option ℕ → ℕ → ℕ
open_for polling started now = if polling then option_map_or (λ moment. now - moment) started 0 else 0

-- how long a task's open poll has run by a moment
abbrev pub runs_for : TaskRow → ℕ → ℕ
runs_for x now = open_for x.polling x.last_started now

-- how long a task's polls ran up to a moment, the open one with them
abbrev pub busy_until : TaskRow → ℕ → ℕ
busy_until x now = capped (x.busy + runs_for x now)

-- how long an operation's polls ran up to a moment, the open one with them
abbrev pub op_busy_until : OpRow → ℕ → ℕ
op_busy_until x now = capped (x.busy + open_for x.polling x.last_started now)

-- how long a task that waits has waited by a moment: the whole wait where that is counted, and otherwise since its last wake. 0 where it doesn't wait
abbrev pub waits_for : TaskRow → ℕ → ℕ
waits_for x now = unwrap_or (wait_ended_by x now) (lasting x now)

-- how long a task waited in all up to a moment, the wait that lasts with it: all of it where that is counted, and otherwise each wait since its last wake
abbrev pub sched_until : TaskRow → ℕ → ℕ
sched_until x now = unwrap_or (waited_until x now) (capped (x.sched + lasting x now))
