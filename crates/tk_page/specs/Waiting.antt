-- How it is known for how long tasks waited.
use Rattle.std.specs.Prelude.{nat_lt, Bool, ◌&&◌, ◌||◌, not, is_some}
use Rattle.tk_stream.specs.declared.tables.task.Task.{Task}

-- a task waits for a poll or has waited for one, and its row has each of its waits from its last wake on alone
abbrev pub waits_from_last_wake : Task → Bool
waits_from_last_wake t = not (is_some t.row.waits) && (nat_lt 0 t.row.sched || t.row.scheduled)
