-- What a line says: which items are new since the tables before, and which rows and counts differ.
use Rattle.std.specs.Prelude.{◌≡◌, ℕ, ◌^◌, List, [], map, filter, Bool, true, false, ◌&&◌, ◌||◌, not, nat_le, is_none, is_some, Option, Some, None, unwrap_or}
use Rattle.std.specs.List.{list_any}
use Rattle.std.specs.Option.{option_map_or}
use Rattle.tk_core.specs.declared.op.row.OpRow.{OpRow}
use Rattle.tk_core.specs.declared.resource.row.ResourceRow.{ResourceRow}
use Rattle.tk_core.specs.declared.task.row.TaskRow.{TaskRow}
use Rattle.tk_ids.specs.declared.info.Dropped.{Dropped}
use Rattle.tk_ids.specs.declared.info.OpInfo.{OpInfo}
use Rattle.tk_ids.specs.declared.info.ResourceInfo.{ResourceInfo}
use Rattle.tk_ids.specs.declared.info.TaskInfo.{TaskInfo}
use Rattle.tk_stream.specs.declared.tables.op.Op.{Op}
use Rattle.tk_stream.specs.declared.tables.resource.Resource.{Resource}
use Rattle.tk_stream.specs.declared.tables.task.Task.{Task}
use Rattle.tk_stream.specs.Rows.{same_row, same_resource_row, same_op_row, same_counts}
use Rattle.tk_stream.specs.Times.{TaskTimes, times_id, has_waits, same_times, all_times}
use Rattle.tk_stream.specs.Tables.{TablesView, PollCounts, empty_tables, task_id, resource_id, op_id, counts_id, item_with}

-- which items are gone, by their ids
pub record GoneView : Type 0 where
  pub ops : List ℕ
  pub resources : List ℕ
  pub tasks : List ℕ

-- none is gone
abbrev pub none_gone : GoneView
none_gone = record { ops = []; resources = []; tasks = [] }

-- what a line says: its infos are those of new items, its statistics are ids with their rows. A line of version 2 also says
-- which items are gone, one of version 3 also tells histograms of tasks' poll times, and one of version 1 says nothing of either. One
-- of version 4 says what one of these says, and tells waits: rows that count them, or histograms of them
pub record LineView : Type 0 where
  pub dropped : Dropped
  pub gone : Option GoneView
  pub new_ops : List OpInfo
  pub new_resources : List ResourceInfo
  pub new_tasks : List TaskInfo
  pub now : ℕ
  pub op_stats : List (ℕ × OpRow)
  pub poll_counts : List PollCounts
  pub resource_stats : List (ℕ × ResourceRow)
  pub seq : ℕ
  pub snapshot : Bool
  pub task_stats : List (ℕ × TaskRow)
  pub task_times : Option (List TaskTimes)

-- lines are numbered from 1 to 2^63
abbrev pub is_seq : ℕ → Bool
is_seq n = nat_le 1 n && nat_le n (2 ^ 63)

-- whether a task's row counts its waits
abbrev pub counts_waits : ℕ × TaskRow → Bool
counts_waits s = is_some s.1.waits

-- the version of a line's format: 4 where it tells waits, otherwise 3 where it says what is gone and tells histograms,
-- 2 where it says what is gone, and otherwise 1
abbrev pub version_with : Bool → Option GoneView → Option (List TaskTimes) → ℕ
version_with true _ _ = 4
version_with false None _ = 1
version_with false (Some _) None = 2
version_with false (Some _) (Some _) = 3

-- the items that a line says are gone
abbrev pub gone_of : LineView → GoneView
gone_of l = unwrap_or l.gone none_gone

-- the histograms that a line tells
abbrev pub times_of : LineView → List TaskTimes
times_of l = unwrap_or l.task_times []

-- whether a line tells waits: a row that counts them, or a histogram of them
abbrev pub tells_waits : LineView → Bool
tells_waits l = list_any counts_waits l.task_stats || list_any has_waits (times_of l)

-- the version of a line's format
abbrev pub version : LineView → ℕ
version l = version_with (tells_waits l) l.gone l.task_times

-- ---- between lists of items of any kind, where `id_of` is an item's id

-- an item is new where the old items have none of its id
abbrev pub is_new : {Item : Type 0} → (Item → ℕ) → List Item → Item → Bool
is_new id_of old item = is_none (item_with id_of (id_of item) old)

-- an item is told where it is new, or is not the same as the old item of its id
abbrev pub is_told : {Item : Type 0} → (Item → ℕ) → (Item → Item → Bool) → List Item → Item → Bool
is_told id_of same old item = option_map_or (λ before. not (same before item)) (item_with id_of (id_of item) old) true

-- what stays of the items that are new, in their order
abbrev pub new_infos : {Item Info : Type 0} → (Item → ℕ) → (Item → Info) → List Item → List Item → List Info
new_infos id_of info_of old items = map info_of (filter (is_new id_of old) items)

-- what changes of the items that are told, in their order
abbrev pub told_stats : {Item Stats : Type 0} → (Item → ℕ) → (Item → Item → Bool) → (Item → Stats) → List Item → List Item → List Stats
told_stats id_of same stats_of old items = map stats_of (filter (is_told id_of same old) items)

-- ---- the kinds of items

-- what stays of a task
abbrev pub task_info : Task → TaskInfo
task_info t = t.info

-- what changes of a task: its id and its row
abbrev pub task_stats_of : Task → ℕ × TaskRow
task_stats_of t = (t.info.id, t.row)

-- whether two tasks have the same row
abbrev pub have_same_row : Task → Task → Bool
have_same_row a b = same_row a.row b.row

-- what stays of a resource
abbrev pub resource_info : Resource → ResourceInfo
resource_info r = r.info

-- what changes of a resource: its id and its row
abbrev pub resource_stats_of : Resource → ℕ × ResourceRow
resource_stats_of r = (r.info.id, r.row)

-- whether two resources have the same row
abbrev pub have_same_resource_row : Resource → Resource → Bool
have_same_resource_row a b = same_resource_row a.row b.row

-- what stays of an async operation
abbrev pub op_info : Op → OpInfo
op_info o = o.info

-- what changes of an async operation: its id and its row
abbrev pub op_stats_of : Op → ℕ × OpRow
op_stats_of o = (o.info.id, o.row)

-- whether two async operations have the same row
abbrev pub have_same_op_row : Op → Op → Bool
have_same_op_row a b = same_op_row a.row b.row

-- poll counts are told as they are
abbrev pub all_counts : PollCounts → PollCounts
all_counts c = c

-- ---- lines

-- the line of version 1 that leads from old tables to new ones, by comparing the two whole tables. Totals and moment are those of
-- the new
abbrev pub line_between : TablesView → TablesView → ℕ → LineView
line_between old new seq = record {
  dropped = new.dropped;
  gone = None;
  new_ops = new_infos op_id op_info old.ops new.ops;
  new_resources = new_infos resource_id resource_info old.resources new.resources;
  new_tasks = new_infos task_id task_info old.tasks new.tasks;
  now = new.now;
  op_stats = told_stats op_id have_same_op_row op_stats_of old.ops new.ops;
  poll_counts = told_stats counts_id same_counts all_counts old.counts new.counts;
  resource_stats = told_stats resource_id have_same_resource_row resource_stats_of old.resources new.resources;
  seq = seq;
  snapshot = false;
  task_stats = told_stats task_id have_same_row task_stats_of old.tasks new.tasks;
  task_times = None;
}

-- a snapshot line tells of tables as a whole: it is the line that leads there from empty ones, marked as a snapshot
abbrev pub snapshot_of : TablesView → ℕ → LineView
snapshot_of new seq = record (line_between empty_tables new seq) { snapshot = true }

-- the ids of the old items that are not there any more, in their order
abbrev pub gone_ids : {Item : Type 0} → (Item → ℕ) → List Item → List Item → List ℕ
gone_ids id_of old items = map id_of (filter (is_new id_of items) old)

-- what is gone between old tables and new ones
abbrev pub gone_between : TablesView → TablesView → GoneView
gone_between old new = record {
  ops = gone_ids op_id old.ops new.ops;
  resources = gone_ids resource_id old.resources new.resources;
  tasks = gone_ids task_id old.tasks new.tasks;
}

-- a line as version 2 has it, where these are gone
abbrev pub with_gone : GoneView → LineView → LineView
with_gone gone l = record l { gone = Some gone }

-- the histograms that are new since the old ones, or differ from those, in the order of the new
abbrev pub told_times : List TaskTimes → List TaskTimes → List TaskTimes
told_times old new = told_stats times_id same_times all_times old new

-- a line as version 3 has it, with these histograms
abbrev pub with_times : List TaskTimes → LineView → LineView
with_times times l = record l { gone = Some (gone_of l); task_times = Some times }

-- a line has the info and the row of each item, and all poll counts, each in order of arrival
pub record TellsAll (tables : TablesView) (l : LineView) : Type 0 where
  pub new_ops : l.new_ops ≡ map op_info tables.ops
  pub new_resources : l.new_resources ≡ map resource_info tables.resources
  pub new_tasks : l.new_tasks ≡ map task_info tables.tasks
  pub op_stats : l.op_stats ≡ map op_stats_of tables.ops
  pub poll_counts : l.poll_counts ≡ tables.counts
  pub resource_stats : l.resource_stats ≡ map resource_stats_of tables.resources
  pub task_stats : l.task_stats ≡ map task_stats_of tables.tasks

-- a line has no item and no count
pub record TellsNothing (l : LineView) : Type 0 where
  pub new_ops : l.new_ops ≡ []
  pub new_resources : l.new_resources ≡ []
  pub new_tasks : l.new_tasks ≡ []
  pub op_stats : l.op_stats ≡ []
  pub poll_counts : l.poll_counts ≡ []
  pub resource_stats : l.resource_stats ≡ []
  pub task_stats : l.task_stats ≡ []
