-- What is added up of the tasks of a place.
use Rattle.std.specs.Prelude.{ℕ, ◌+◌, Bool, ◌&&◌, not, is_some, unwrap_or, if◌then◌else◌}
use Rattle.tk_core.specs.Lasting.{busy_until, sched_until}
use Rattle.tk_core.specs.Lists.{capped}
use Rattle.tk_core.specs.Task.{waited_of}
use Rattle.tk_core.specs.declared.task.row.TaskRow.{TaskRow}
use Rattle.tk_sites.specs.declared.sums.Sums.{Sums}
use Rattle.tk_sites.specs.declared.warned.Warnings.{Warnings}
use Rattle.tk_sites.specs.Warned.{both_warnings, no_warnings}

-- 1 where it is so
abbrev pub one_if : Bool → ℕ
one_if b = if b then 1 else 0

-- of no task
abbrev pub nothing : Sums
nothing = record {
  tasks = 0;
  idle = 0;
  scheduled = 0;
  polling = 0;
  closed = 0;
  left = 0;
  polls = 0;
  wakes = 0;
  own = 0;
  clones = 0;
  drops = 0;
  busy = 0;
  sched = 0;
  waited = 0;
  warnings = no_warnings;
}

-- of a task that came
abbrev pub came : Sums
came = record nothing { tasks = 1 }

-- how long a task waited: all of it where that is counted, and otherwise each wait since its last wake
abbrev pub waited_by : TaskRow → ℕ
waited_by x = unwrap_or (waited_of x) x.sched

-- what the row of a task says, its state aside
abbrev pub counted : TaskRow → Sums
counted x = record nothing {
  polls = x.polls;
  wakes = x.wakes;
  own = x.self_wakes;
  clones = x.clones;
  drops = x.drops;
  busy = x.busy;
  sched = x.sched;
  waited = waited_by x;
}

-- what a task that has left had come to
abbrev pub left : TaskRow → Sums
left x = record (counted x) { left = 1 }

-- what a task that is there has come to, and its state: the first that holds of closed, being polled and scheduled; else it is idle
abbrev pub there : TaskRow → Sums
there x = record (counted x) {
  idle = one_if (not (is_some x.dropped) && (not x.polling && not x.scheduled));
  scheduled = one_if (not (is_some x.dropped) && (not x.polling && x.scheduled));
  polling = one_if (not (is_some x.dropped) && x.polling);
  closed = one_if (is_some x.dropped);
}

-- the same, with what lasts at a moment: a poll that runs, and waiting that goes on
abbrev pub there_until : ℕ → TaskRow → Sums
there_until now x = record (there x) { busy = busy_until x now; waited = sched_until x now }

-- of a warning
abbrev pub warned : Warnings → Sums
warned warnings = record nothing { warnings = warnings }

-- the sums of both. A sum that passes 2^64 - 1 stays there
abbrev pub plus : Sums → Sums → Sums
plus a b = record {
  tasks = capped (a.tasks + b.tasks);
  idle = capped (a.idle + b.idle);
  scheduled = capped (a.scheduled + b.scheduled);
  polling = capped (a.polling + b.polling);
  closed = capped (a.closed + b.closed);
  left = capped (a.left + b.left);
  polls = capped (a.polls + b.polls);
  wakes = capped (a.wakes + b.wakes);
  own = capped (a.own + b.own);
  clones = capped (a.clones + b.clones);
  drops = capped (a.drops + b.drops);
  busy = capped (a.busy + b.busy);
  sched = capped (a.sched + b.sched);
  waited = capped (a.waited + b.waited);
  warnings = both_warnings a.warnings b.warnings;
}
