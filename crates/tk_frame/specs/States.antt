-- How many tasks there are in each state.
use Rattle.std.specs.Prelude.{ℕ, List, Bool, ◌&&◌, not, filter, length, is_some}
use Rattle.tk_stream.specs.declared.tables.task.Task.{Task}
use Rattle.tk_frame.specs.declared.ranks.States.{States}

-- each task is in one state: the first of these that holds of it, closed, polling, scheduled and idle
abbrev pub is_closed : Task → Bool
is_closed t = is_some t.row.dropped

abbrev pub is_polling : Task → Bool
is_polling t = not (is_closed t) && t.row.polling

abbrev pub is_scheduled : Task → Bool
is_scheduled t = not (is_closed t) && (not t.row.polling && t.row.scheduled)

abbrev pub is_idle : Task → Bool
is_idle t = not (is_closed t) && (not t.row.polling && not t.row.scheduled)

-- of how many tasks it holds
abbrev pub count : (Task → Bool) → List Task → ℕ
count holds tasks = length (filter holds tasks)

abbrev pub states_of : List Task → States
states_of tasks = record {
  polling = count is_polling tasks;
  scheduled = count is_scheduled tasks;
  idle = count is_idle tasks;
  closed = count is_closed tasks;
}
