-- What is added up of tasks, and of resources.
use Rattle.std.specs.Prelude.{ℕ, ◌+◌, max, Bool, ◌&&◌, not, is_some, unwrap_or, List, codes, ◌++◌, ◌∷◌, if◌then◌else◌}
use Rattle.tk_core.specs.Lists.{capped}
use Rattle.tk_core.specs.Lasting.{runs_for, waits_for}
use Rattle.tk_core.specs.Task.{waited_of}
use Rattle.tk_core.specs.declared.task.row.TaskRow.{TaskRow}
use Rattle.tk_ids.specs.Ids.{id_text}
use Rattle.tk_odd.specs.Places.{location_text, without_numbers}
use Rattle.tk_stream.specs.Spelling.{kind_text}
use Rattle.tk_stream.specs.Tables.{PollCounts, counts_of}
use Rattle.tk_stream.specs.declared.tables.resource.Resource.{Resource}
use Rattle.tk_stream.specs.declared.tables.task.Task.{Task}
use Rattle.tk_metrics.specs.Samples.{label, with_label}
use Rattle.tk_metrics.specs.declared.by.By.{By}
use Rattle.tk_metrics.specs.declared.by.By.TheVariants.{Name, Id, Place}
use Rattle.tk_metrics.specs.declared.sums.PollOps.{PollOps}
use Rattle.tk_metrics.specs.declared.sums.Sums.{Sums}

-- ---- tasks

-- 1 where it is so
abbrev pub one_if : Bool → ℕ
one_if b = if b then 1 else 0

-- what a task that has left had come to
abbrev pub sums_left : TaskRow → Sums
sums_left x = record {
  polls = x.polls;
  busy = x.busy;
  sched = unwrap_or (waited_of x) x.sched;
  wakes = x.wakes;
  own = x.self_wakes;
  clones = x.clones;
  drops = x.drops;
  idle = 0;
  scheduled = 0;
  polling = 0;
  closed = 0;
  open_poll = 0;
  open_wait = 0;
  waiting = 0;
}

-- what a task has come to at a moment, its state, and what lasts. Its state is the first that holds of closed, being polled and scheduled; else it is idle
abbrev pub sums_of : ℕ → TaskRow → Sums
sums_of now x = record (sums_left x) {
  idle = one_if (not (is_some x.dropped) && (not x.polling && not x.scheduled));
  scheduled = one_if (not (is_some x.dropped) && (not x.polling && x.scheduled));
  polling = one_if (not (is_some x.dropped) && x.polling);
  closed = one_if (is_some x.dropped);
  open_poll = runs_for x now;
  open_wait = waits_for x now;
  waiting = waits_for x now;
}

-- the sums of both, and the longer one of what lasts. A sum that passes 2^64 - 1 stays there
abbrev pub plus : Sums → Sums → Sums
plus a b = record {
  polls = capped (a.polls + b.polls);
  busy = capped (a.busy + b.busy);
  sched = capped (a.sched + b.sched);
  wakes = capped (a.wakes + b.wakes);
  own = capped (a.own + b.own);
  clones = capped (a.clones + b.clones);
  drops = capped (a.drops + b.drops);
  idle = capped (a.idle + b.idle);
  scheduled = capped (a.scheduled + b.scheduled);
  polling = capped (a.polling + b.polling);
  closed = capped (a.closed + b.closed);
  open_poll = max a.open_poll b.open_poll;
  open_wait = max a.open_wait b.open_wait;
  waiting = capped (a.waiting + b.waiting);
}

-- a name and a kind
abbrev pub name_labels : List ℕ → Task → List ℕ
name_labels name t = with_label (label (codes "name") name) (codes "kind") (kind_text t.info.kind)

-- the label of an id
abbrev pub id_label : Task → List ℕ
id_label t = label (codes "id") (id_text t.info.id)

-- a task's labels: its name and kind; its id before them, where each task is shown by itself; and by places its name but for numbers, its kind, and where
-- it was spawned
abbrev pub task_labels : By → Task → List ℕ
task_labels Name t = name_labels t.info.name t
task_labels Id t = id_label t ++ 44 ∷ name_labels t.info.name t
task_labels Place t = with_label (name_labels (without_numbers t.info.name) t) (codes "location") (location_text t.info.location)

-- ---- resources

-- the sums of both
abbrev pub both_ops : PollOps → PollOps → PollOps
both_ops a b = record { ready = capped (a.ready + b.ready); pending = capped (a.pending + b.pending) }

-- how many of a resource's poll operations were ready, and how many pending
abbrev pub poll_ops : List PollCounts → Resource → PollOps
poll_ops counts r = record { ready = (counts_of r.info.id counts).0; pending = (counts_of r.info.id counts).1 }

-- a resource's label
abbrev pub type_label : Resource → List ℕ
type_label r = label (codes "type") r.info.concrete

-- a resource, with its poll operations
abbrev pub resource_entry : List PollCounts → Resource → List ℕ × PollOps
resource_entry counts r = (type_label r, poll_ops counts r)
