-- What a task ran and waited between two lines.
use Rattle.std.specs.Prelude.{◌+◌, ◌-◌, ℕ, max, min, Bool, false, ◌&&◌, not, nat_le, None}
use Rattle.tk_core.specs.Lists.{capped}
use Rattle.tk_core.specs.Lasting.{busy_until, runs_for, sched_until}
use Rattle.tk_core.specs.declared.task.row.TaskRow.{TaskRow}
use Rattle.tk_report.specs.Runs.{ended_of, ended_run}
use Rattle.tk_odd.specs.declared.gain.Gain.{Gain}

-- a task waits for a poll
abbrev pub waits : TaskRow → Bool
waits x = x.scheduled && not x.polling

-- ---- between two lines

-- what a task gained since a row of it: no more than the time between the lines
abbrev pub gain_since : ℕ → ℕ → TaskRow → TaskRow → Gain
gain_since before now old x = record {
  ran = min (now - before) (busy_until x now - busy_until old before);
  waited = min (now - before) (sched_until x now - sched_until old before);
  polls = x.polls - old.polls;
  longest = max (runs_for x now) (ended_run (ended_of old) x);
}

-- both, of one step
abbrev pub plus : Gain → Gain → Gain
plus g h = record {
  ran = capped (g.ran + h.ran);
  waited = capped (g.waited + h.waited);
  polls = capped (g.polls + h.polls);
  longest = max g.longest h.longest;
}

-- a task gained something
abbrev pub has_gained : Gain → Bool
has_gained g = nat_le 1 (g.ran + (g.waited + (g.polls + g.longest)))

-- the row of a task that had not run or waited yet
abbrev pub fresh : TaskRow → TaskRow
fresh x = record x { polls = 0; busy = 0; sched = 0; waits = None; polling = false; scheduled = false; last_started = None; last_ended = None }
