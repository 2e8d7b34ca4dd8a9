-- Which items leave at a moment, and the line that says so.
use Rattle.std.specs.Prelude.{ℕ, ◌-◌, List, map, filter, Bool, false, not, nat_le, Option, Some}
use Rattle.std.specs.Option.{option_map_or}
use Rattle.tk_stream.specs.declared.tables.op.Op.{Op}
use Rattle.tk_stream.specs.declared.tables.resource.Resource.{Resource}
use Rattle.tk_stream.specs.declared.tables.task.Task.{Task}
use Rattle.tk_stream.specs.Applied.{without_gone}
use Rattle.tk_stream.specs.Lines.{LineView, GoneView, line_between, gone_between, with_gone}
use Rattle.tk_stream.specs.Times.{TaskTimes, times_id}
use Rattle.tk_stream.specs.Tables.{TablesView, task_id, resource_id, op_id, is_among}

-- when a task was closed, if it was
abbrev pub task_closed : Task → Option ℕ
task_closed t = t.row.dropped

-- when a resource was closed, if it was
abbrev pub resource_closed : Resource → Option ℕ
resource_closed r = r.row.dropped

-- when an async operation was closed, if it was
abbrev pub op_closed : Op → Option ℕ
op_closed o = o.row.dropped

-- what was closed, if at all, at this moment is due where that is at least `retention` nanoseconds ago; a close that is still to come is 0 ago
abbrev pub is_due : ℕ → ℕ → Option ℕ → Bool
is_due retention now closed = option_map_or (λ at. nat_le retention (now - at)) closed false

-- the ids of the items that are due, in their order
abbrev pub due_ids : {Item : Type 0} → (Item → ℕ) → (Item → Option ℕ) → ℕ → ℕ → List Item → List ℕ
due_ids id_of closed_of retention now items = map id_of (filter (λ item. is_due retention now (closed_of item)) items)

-- what leaves at a moment: the items that are due as the tables of the last whole line have them
abbrev pub due_of : TablesView → ℕ → ℕ → GoneView
due_of told now retention = record {
  ops = due_ids op_id op_closed retention now told.ops;
  resources = due_ids resource_id resource_closed retention now told.resources;
  tasks = due_ids task_id task_closed retention now told.tasks;
}

-- tables without what leaves
abbrev pub prune : TablesView → TablesView → ℕ → ℕ → TablesView
prune tables told now retention = without_gone tables (due_of told now retention)

-- the line of version 2 that leads from old tables to new ones that go on from them but for what is gone
abbrev pub line_pruned : TablesView → TablesView → ℕ → LineView
line_pruned old new seq = with_gone (gone_between old new) (line_between old new seq)

-- what changes of items, without that of those that are gone
abbrev pub stats_without : {Stats : Type 0} → (Stats → ℕ) → List ℕ → List Stats → List Stats
stats_without id_in gone stats = filter (λ s. not (is_among gone (id_in s))) stats

-- a line of version 1 as one of version 2 that says that these are gone, and tells of none of them what changes
abbrev pub told_without : GoneView → LineView → LineView
told_without gone l = record l {
  gone = Some gone;
  op_stats = stats_without (λ s. s.0) gone.ops l.op_stats;
  resource_stats = stats_without (λ s. s.0) gone.resources l.resource_stats;
  task_stats = stats_without (λ s. s.0) gone.tasks l.task_stats;
}

-- histograms but for those of tasks that leave, where something does
abbrev pub times_staying : Option GoneView → List TaskTimes → List TaskTimes
times_staying leaving times = option_map_or (λ gone. stats_without times_id gone.tasks times) leaving times
