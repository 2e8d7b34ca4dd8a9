-- What a line makes of tables.
use Rattle.std.specs.Prelude.{◌≡◌, ℕ, List, [], ◌∷◌, ◌++◌, map, filter, not, Option, Some, option_map, option_and_then}
use Rattle.std.specs.Option.{option_map_or}
use Rattle.tk_core.specs.declared.op.row.OpRow.{OpRow}
use Rattle.tk_core.specs.declared.resource.row.ResourceRow.{ResourceRow}
use Rattle.tk_core.specs.declared.task.row.TaskRow.{TaskRow}
use Rattle.tk_ids.specs.declared.info.OpInfo.{OpInfo}
use Rattle.tk_ids.specs.declared.info.ResourceInfo.{ResourceInfo}
use Rattle.tk_ids.specs.declared.info.TaskInfo.{TaskInfo}
use Rattle.tk_stream.specs.declared.tables.op.Op.{Op}
use Rattle.tk_stream.specs.declared.tables.resource.Resource.{Resource}
use Rattle.tk_stream.specs.declared.tables.task.Task.{Task}
use Rattle.tk_stream.specs.Tables.{TablesView, PollCounts, task_id, resource_id, op_id, counts_id, item_with, staying}
use Rattle.tk_stream.specs.Times.{TaskTimes, times_id}
use Rattle.tk_stream.specs.Lines.{LineView, GoneView, gone_of, times_of, is_new, task_info, resource_info, op_info}

-- a kind of item: its id and what stays of it, the ids of what stays and of what changes, and the item that the two make
pub record Kind (Item Info Stats : Type 0) : Type 0 where
  pub id_of : Item → ℕ
  pub info_of : Item → Info
  pub info_id : Info → ℕ
  pub stats_id : Stats → ℕ
  pub item_of : Info → Stats → Item

-- tasks
abbrev pub task_kind : Kind Task TaskInfo (ℕ × TaskRow)
task_kind = record {
  id_of = task_id;
  info_of = task_info;
  info_id = λ t. t.id;
  stats_id = λ s. s.0;
  item_of = λ info s. record { info = info; row = s.1 };
}

-- resources
abbrev pub resource_kind : Kind Resource ResourceInfo (ℕ × ResourceRow)
resource_kind = record {
  id_of = resource_id;
  info_of = resource_info;
  info_id = λ r. r.id;
  stats_id = λ s. s.0;
  item_of = λ info s. record { info = info; row = s.1 };
}

-- async operations
abbrev pub op_kind : Kind Op OpInfo (ℕ × OpRow)
op_kind = record {
  id_of = op_id;
  info_of = op_info;
  info_id = λ o. o.id;
  stats_id = λ s. s.0;
  item_of = λ info s. record { info = info; row = s.1 };
}

-- poll counts: what stays is the resource's id, and they are told whole
abbrev pub counts_kind : Kind PollCounts ℕ PollCounts
counts_kind = record {
  id_of = counts_id;
  info_of = counts_id;
  info_id = λ id. id;
  stats_id = counts_id;
  item_of = λ id c. c;
}

-- histograms of poll times: what stays is the task's id, and they are told whole
abbrev pub times_kind : Kind TaskTimes ℕ TaskTimes
times_kind = record {
  id_of = times_id;
  info_of = times_id;
  info_id = λ id. id;
  stats_id = times_id;
  item_of = λ id t. t;
}

-- an item that was there has what is told of it, and is as it was where nothing is
abbrev pub told_item : {Item Info Stats : Type 0} → Kind Item Info Stats → List Stats → Item → Item
told_item k stats item = option_map_or (k.item_of (k.info_of item)) (item_with k.stats_id (k.id_of item) stats) item

-- a new item has what is told of it
abbrev pub new_item : {Item Info Stats : Type 0} → Kind Item Info Stats → List Stats → Info → Option Item
new_item k stats info = option_map (k.item_of info) (item_with k.stats_id (k.info_id info) stats)

-- the new items, where something is told of each
abbrev pub new_items : {Item Info Stats : Type 0} → Kind Item Info Stats → List Stats → List Info → Option (List Item)
new_items k stats [] = Some []
new_items k stats (info ∷ infos) =
    option_and_then (λ item. option_map (λ items. item ∷ items) (new_items k stats infos)) (new_item k stats info)

-- items that are there with what is told of them, and after them the new ones in the line's order
abbrev pub items_told : {Item Info Stats : Type 0} → Kind Item Info Stats → List Item → List Info → List Stats → Option (List Item)
items_told k there infos stats = option_map (λ items. map (told_item k stats) there ++ items) (new_items k stats infos)

-- items after a line: those that were there and are not gone, and after them the new ones
abbrev pub items_after : {Item Info Stats : Type 0} → Kind Item Info Stats → List Item → List ℕ → List Info → List Stats → Option (List Item)
items_after k old gone infos stats = items_told k (staying k.id_of gone old) infos stats

-- poll counts after a line: those that were there, and after them the new ones in the line's order
abbrev pub counts_after : List PollCounts → List PollCounts → List PollCounts
counts_after old told = map (told_item counts_kind told) old ++ filter (is_new counts_id old) told

-- histograms that are there with what is told of them, and after them the new ones in the line's order
abbrev pub times_told : List TaskTimes → List TaskTimes → List TaskTimes
times_told there told = map (told_item times_kind told) there ++ filter (is_new times_id there) told

-- histograms after a line, where they stand beside tables that the line is applied to: those of tasks that are gone leave with them,
-- the others are as they are told, and after them stand the new ones in the line's order
abbrev pub times_after : List TaskTimes → LineView → List TaskTimes
times_after old l = times_told (staying times_id (gone_of l).tasks old) (times_of l)

-- tables after a line, where it has what changes of each new item. Totals and moment are the line's, and histograms stand beside them
abbrev pub tables_after : TablesView → LineView → Option TablesView
tables_after old l =
    option_and_then (λ tasks. option_and_then (λ resources. option_map (λ ops. record {
      tasks = tasks;
      resources = resources;
      ops = ops;
      counts = counts_after old.counts l.poll_counts;
      dropped = l.dropped;
      now = l.now;
    }) (items_after op_kind old.ops (gone_of l).ops l.new_ops l.op_stats))
    (items_after resource_kind old.resources (gone_of l).resources l.new_resources l.resource_stats))
    (items_after task_kind old.tasks (gone_of l).tasks l.new_tasks l.task_stats)

-- items that begin with the old ones in order, what changes aside
abbrev pub BeginWith : {Item Info Stats : Type 0} → Kind Item Info Stats → List Item → List Item → Type 0
BeginWith k [] new = Unit {0}
BeginWith k (x ∷ xs) [] = ⊥
BeginWith k (x ∷ xs) (y ∷ ys) = (k.info_of x ≡ k.info_of y) × BeginWith k xs ys

-- the old items that are still there
abbrev pub still_there : {Item : Type 0} → (Item → ℕ) → List Item → List Item → List Item
still_there id_of old items = filter (λ item. not (is_new id_of items item)) old

-- the old tables without the items that are gone. Poll counts stay
abbrev pub what_stays : TablesView → TablesView → TablesView
what_stays old new = record old {
  tasks = still_there task_id old.tasks new.tasks;
  resources = still_there resource_id old.resources new.resources;
  ops = still_there op_id old.ops new.ops;
}

-- the tables without the items that are gone. Poll counts stay
abbrev pub without_gone : TablesView → GoneView → TablesView
without_gone tables gone = record tables {
  tasks = staying task_id gone.tasks tables.tasks;
  resources = staying resource_id gone.resources tables.resources;
  ops = staying op_id gone.ops tables.ops;
}

-- tables whose items and poll counts begin with those of the old ones in order
pub record GoOn (old new : TablesView) : Type 0 where
  pub tasks : BeginWith task_kind old.tasks new.tasks
  pub resources : BeginWith resource_kind old.resources new.resources
  pub ops : BeginWith op_kind old.ops new.ops
  pub counts : BeginWith counts_kind old.counts new.counts
