-- Who waits for a poll at the begin of a step.
use Rattle.std.specs.Prelude.{ℕ, List, [], Option, filter, map, nat_eq}
use Rattle.std.specs.Map.{lookup}
use Rattle.tk_core.specs.declared.task.row.TaskRow.{TaskRow}
use Rattle.tk_stream.specs.Tables.{TablesView}
use Rattle.tk_stream.specs.declared.tables.task.Task.{Task}
use Rattle.tk_odd.specs.Gains.{waits}

-- a moment, and the tasks that wait then: each with its row
pub record WaitersView : Type 0 where
  pub moment : ℕ
  pub rows : List (ℕ × TaskRow)

-- before the first step nobody waits
abbrev pub no_waiters : WaitersView
no_waiters = record { moment = 0; rows = [] }

-- a task with its row
abbrev pub with_row : Task → ℕ × TaskRow
with_row t = (t.info.id, t.row)

-- the tasks of tables that wait
abbrev pub waiters_of : TablesView → WaitersView
waiters_of tables = record { moment = tables.now; rows = map with_row (filter (λ (t : Task). waits t.row) tables.tasks) }

-- the row of a task, where it is one of these
abbrev pub waiter : WaitersView → ℕ → Option TaskRow
waiter w id = lookup (nat_eq id) w.rows
