-- What a course of time keeps of a task at a line.
use Rattle.std.specs.Prelude.{ℕ, ◌+◌, ◌-◌}
use Rattle.tk_core.specs.Lists.{capped}
use Rattle.tk_core.specs.Lasting.{busy_until, sched_until}
use Rattle.tk_core.specs.declared.task.row.TaskRow.{TaskRow}
use Rattle.tk_page.specs.declared.sample.Sample.{Sample}
use Rattle.tk_page.specs.declared.sample.Step.{Step}

-- what a task has come to at a moment
abbrev pub sample_of : TaskRow → ℕ → Sample
sample_of x now = record { now = now; busy = busy_until x now; sched = sched_until x now; polls = x.polls; wakes = x.wakes; own = x.self_wakes }

-- nothing, at a moment
abbrev pub nothing : ℕ → Sample
nothing now = record { now = now; busy = 0; sched = 0; polls = 0; wakes = 0; own = 0 }

-- the sum of both, at the moment of the first
abbrev pub plus : Sample → Sample → Sample
plus s t = record {
  now = s.now;
  busy = capped (s.busy + t.busy);
  sched = capped (s.sched + t.sched);
  polls = capped (s.polls + t.polls);
  wakes = capped (s.wakes + t.wakes);
  own = capped (s.own + t.own);
}

-- what came since the second, at the moment of the first
abbrev pub gained : Sample → Sample → Sample
gained s t = record {
  now = s.now;
  busy = s.busy - t.busy;
  sched = s.sched - t.sched;
  polls = s.polls - t.polls;
  wakes = s.wakes - t.wakes;
  own = s.own - t.own;
}

-- what came between two samples
abbrev pub step_of : Sample → Sample → Step
step_of s t = record {
  from = s.now;
  to = t.now;
  busy = t.busy - s.busy;
  sched = t.sched - s.sched;
  wakes = t.wakes - s.wakes;
  own = t.own - s.own;
}

-- how long a step lasted
abbrev pub time_of : Step → ℕ
time_of step = step.to - step.from
