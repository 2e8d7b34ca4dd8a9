-- What tables hold, and what their calls make of it.
use Rattle.std.specs.Prelude.{ℕ, zero, suc, ◌==◌, nat_eq, List, [], ◌∷◌, ◌++◌, map, find, filter, take, not, Bool, Option, if◌then◌else◌}
use Rattle.std.specs.List.{IsDistinct, AllByRecursion, list_any}
use Rattle.std.specs.Option.{option_map_or}
use Rattle.tk_core.specs.declared.op.row.OpRow.{OpRow}
use Rattle.tk_core.specs.declared.resource.row.ResourceRow.{ResourceRow}
use Rattle.tk_core.specs.declared.task.row.TaskRow.{TaskRow}
use Rattle.tk_ids.specs.Attributes.{HaveKinds}
use Rattle.tk_ids.specs.declared.info.Dropped.{Dropped}
use Rattle.tk_ids.specs.declared.info.TaskInfo.{TaskInfo}
use Rattle.tk_ids.specs.declared.info.ResourceInfo.{ResourceInfo}
use Rattle.tk_ids.specs.declared.info.OpInfo.{OpInfo}
use Rattle.tk_stream.specs.declared.tables.task.Task.{Task}
use Rattle.tk_stream.specs.declared.tables.resource.Resource.{Resource}
use Rattle.tk_stream.specs.declared.tables.op.Op.{Op}

-- how many poll operations of a resource were ready, and how many pending: (resource, ready, pending)
abbrev pub PollCounts : Type 0
PollCounts = ℕ × ℕ × ℕ

-- the items in order of arrival, the poll counts in the order of their resources' first poll operations, the totals of
-- what was dropped, and the moment of the last whole line
pub record TablesView : Type 0 where
  pub tasks : List Task
  pub resources : List Resource
  pub ops : List Op
  pub counts : List PollCounts
  pub dropped : Dropped
  pub now : ℕ

-- tables without items, whose numbers are 0
abbrev pub empty_tables : TablesView
empty_tables = record {
  tasks = [];
  resources = [];
  ops = [];
  counts = [];
  dropped = record { tasks = 0; resources = 0; ops = 0 };
  now = 0;
}

-- the id of a task
abbrev pub task_id : Task → ℕ
task_id t = t.info.id

-- the id of a resource
abbrev pub resource_id : Resource → ℕ
resource_id r = r.info.id

-- the id of an async operation
abbrev pub op_id : Op → ℕ
op_id o = o.info.id

-- the resource whose poll operations are counted
abbrev pub counts_id : PollCounts → ℕ
counts_id c = c.0

-- the item with an id, where `id_of` is an item's id
abbrev pub item_with : {Item : Type 0} → (Item → ℕ) → ℕ → List Item → Option Item
item_with id_of id items = find (λ item. id == id_of item) items

-- the task with an id
abbrev pub task_with : ℕ → List Task → Option Task
task_with = item_with task_id

-- the resource with an id
abbrev pub resource_with : ℕ → List Resource → Option Resource
resource_with = item_with resource_id

-- the async operation with an id
abbrev pub op_with : ℕ → List Op → Option Op
op_with = item_with op_id

-- how many poll operations of a resource were ready, and how many pending: none where no poll counts are there
abbrev pub counts_of : ℕ → List PollCounts → ℕ × ℕ
counts_of id counts = option_map_or (λ c. (c.1, c.2)) (item_with counts_id id counts) (0, 0)

-- no item stands twice
pub record AreDistinct (tables : TablesView) : Type 0 where
  pub tasks : IsDistinct nat_eq (map task_id tables.tasks)
  pub resources : IsDistinct nat_eq (map resource_id tables.resources)
  pub ops : IsDistinct nat_eq (map op_id tables.ops)
  pub counts : IsDistinct nat_eq (map counts_id tables.counts)

-- fit tables: no item stands twice, and each row has the attributes of its item
pub record AreFit (tables : TablesView) : Type 0 where
  pub distinct : AreDistinct tables
  pub resources : AllByRecursion (λ r. HaveKinds r.info.attrs r.row.attrs) tables.resources
  pub ops : AllByRecursion (λ o. HaveKinds o.info.attrs o.row.attrs) tables.ops

-- ---- what calls make of tables

-- a list with a change of the element at a place
abbrev pub changed_at : {A : Type 0} → (A → A) → List A → ℕ → List A
changed_at change [] i = []
changed_at change (x ∷ xs) zero = change x ∷ xs
changed_at change (x ∷ xs) (suc i) = x ∷ changed_at change xs i

-- the tables with a task more, which goes last
abbrev pub with_task : TablesView → TaskInfo → TaskRow → TablesView
with_task tables info row = record tables { tasks = tables.tasks ++ record { info = info; row = row } ∷ [] }

-- the tables with a resource more, which goes last
abbrev pub with_resource : TablesView → ResourceInfo → ResourceRow → TablesView
with_resource tables info row = record tables { resources = tables.resources ++ record { info = info; row = row } ∷ [] }

-- the tables with an async operation more, which goes last
abbrev pub with_op : TablesView → OpInfo → OpRow → TablesView
with_op tables info row = record tables { ops = tables.ops ++ record { info = info; row = row } ∷ [] }

-- the tasks with another row at a place
abbrev pub with_row : List Task → ℕ → TaskRow → List Task
with_row tasks i row = changed_at (λ (t : Task). record t { row = row }) tasks i

-- the resources with another row at a place
abbrev pub with_resource_row : List Resource → ℕ → ResourceRow → List Resource
with_resource_row resources i row = changed_at (λ (r : Resource). record r { row = row }) resources i

-- the async operations with another row at a place
abbrev pub with_op_row : List Op → ℕ → OpRow → List Op
with_op_row ops i row = changed_at (λ (o : Op). record o { row = row }) ops i

-- items with this one: it takes the place of the one with its id, or goes last where there is none
abbrev pub put_item : {Item : Type 0} → (Item → ℕ) → Item → List Item → List Item
put_item id_of new [] = new ∷ []
put_item id_of new (x ∷ xs) = if id_of new == id_of x then new ∷ xs else x ∷ put_item id_of new xs

-- whether an id is among these
abbrev pub is_among : List ℕ → ℕ → Bool
is_among ids id = list_any (λ n. id == n) ids

-- the items that stay where those of these ids leave. They keep their order
abbrev pub staying : {Item : Type 0} → (Item → ℕ) → List ℕ → List Item → List Item
staying id_of gone items = filter (λ item. not (is_among gone (id_of item))) items

-- the tables without a task
abbrev pub without_task : TablesView → ℕ → TablesView
without_task tables id = record tables { tasks = staying task_id (id ∷ []) tables.tasks }

-- the tables without a resource
abbrev pub without_resource : TablesView → ℕ → TablesView
without_resource tables id = record tables { resources = staying resource_id (id ∷ []) tables.resources }

-- the tables without an async operation
abbrev pub without_op : TablesView → ℕ → TablesView
without_op tables id = record tables { ops = staying op_id (id ∷ []) tables.ops }

-- the tables with the poll counts of a resource
abbrev pub with_counts : TablesView → ℕ → ℕ → ℕ → TablesView
with_counts tables id ready pending = record tables { counts = put_item counts_id (id, ready, pending) tables.counts }

-- the tables with only the first so many tasks, resources, async operations and poll counts
abbrev pub cut_to : TablesView → ℕ → ℕ → ℕ → ℕ → TablesView
cut_to tables tasks resources ops counted = record tables {
  tasks = take tasks tables.tasks;
  resources = take resources tables.resources;
  ops = take ops tables.ops;
  counts = take counted tables.counts;
}
