-- What stays known of the tables of the last whole line: their items are the first ones of the tables, and of each the row is
-- kept that was told, where it is another now.
use Rattle.std.specs.Prelude.{ℕ, ◌≤◌, List, [], ◌∷◌, ◌++◌, length, Bool, true, not, Option, Some, None}
use Rattle.std.specs.Option.{option_map_or}
use Rattle.tk_ids.specs.declared.info.Dropped.{Dropped}
use Rattle.tk_core.specs.declared.op.row.OpRow.{OpRow}
use Rattle.tk_core.specs.declared.resource.row.ResourceRow.{ResourceRow}
use Rattle.tk_core.specs.declared.task.row.TaskRow.{TaskRow}
use Rattle.tk_stream.specs.declared.tables.op.Op.{Op}
use Rattle.tk_stream.specs.declared.tables.resource.Resource.{Resource}
use Rattle.tk_stream.specs.declared.tables.task.Task.{Task}
use Rattle.tk_stream.specs.Tables.{TablesView, PollCounts}
use Rattle.tk_stream.specs.Kept.{kept}

-- of each of the first items of a list the row that was told, where it is another now, and for how many items there is room
pub record Telling (Row : Type 0) : Type 0 where
  pub rows : List (Option Row)
  pub room : ℕ

-- none, and no room
abbrev pub no_telling : {Row : Type 0} → Telling Row
no_telling = record { rows = []; room = 0 }

-- an item as it was told: with the row of then, where it is another now
abbrev pub as_told : {Item Row : Type 0} → (Item → Row → Item) → Item → Option Row → Item
as_told with_row x (Some row) = with_row x row
as_told with_row x None = x

-- items with these rows, as far as there are rows
abbrev pub with_rows : {Item Row : Type 0} → (Item → Row → Item) → List Item → List Row → List Item
with_rows with_row xs [] = []
with_rows with_row [] (r ∷ rs) = []
with_rows with_row (x ∷ xs) (r ∷ rs) = with_row x r ∷ with_rows with_row xs rs

-- an item is told where no row of it was told, or where it isn't the same with that row
abbrev pub is_told_beside : {Item Row : Type 0} → (Item → Row → Item) → (Item → Item → Bool) → Option Row → Item → Bool
is_told_beside with_row same told item = option_map_or (λ row. not (same (with_row item row) item)) told true

-- what is told of items whose first ones had these rows
abbrev pub stats_beside : {Item Row Stats : Type 0} → (Item → Row → Item) → (Item → Item → Bool) → (Item → Stats) → List Row → List Item → List Stats
stats_beside with_row same stats_of rs [] = []
stats_beside with_row same stats_of [] (x ∷ xs) = stats_of x ∷ stats_beside with_row same stats_of [] xs
stats_beside with_row same stats_of (r ∷ rs) (x ∷ xs) = kept (not (same (with_row x r) x)) (stats_of x) ++ stats_beside with_row same stats_of rs xs

-- the rows and counts that were told of the first items of tables, and the totals
pub record ToldView : Type 0 where
  pub tasks : Telling TaskRow
  pub resources : Telling ResourceRow
  pub ops : Telling OpRow
  pub counts : Telling (ℕ × ℕ)
  pub dropped : Dropped

-- nothing was told
abbrev pub no_told : ToldView
no_told = record { tasks = no_telling; resources = no_telling; ops = no_telling; counts = no_telling; dropped = record { tasks = 0; resources = 0; ops = 0 } }

-- a task with another row
abbrev pub task_at : Task → TaskRow → Task
task_at t row = record t { row = row }

-- a resource with another row
abbrev pub resource_at : Resource → ResourceRow → Resource
resource_at r row = record r { row = row }

-- an async operation with another row
abbrev pub op_at : Op → OpRow → Op
op_at o row = record o { row = row }

-- a resource with other counts
abbrev pub counts_at : PollCounts → ℕ × ℕ → PollCounts
counts_at c row = (c.0, row.0, row.1)

-- the tables that were told: the first items of these tables, as they were told. The moment is theirs
abbrev pub told_tables : ToldView → TablesView → TablesView
told_tables told tables = record {
  tasks = with_rows (as_told task_at) tables.tasks told.tasks.rows;
  resources = with_rows (as_told resource_at) tables.resources told.resources.rows;
  ops = with_rows (as_told op_at) tables.ops told.ops.rows;
  counts = with_rows (as_told counts_at) tables.counts told.counts.rows;
  dropped = told.dropped;
  now = tables.now;
}

-- no more items were told of than there are
pub record FitsIn (told : ToldView) (tables : TablesView) : Type 0 where
  pub tasks : length told.tasks.rows ≤ length tables.tasks
  pub resources : length told.resources.rows ≤ length tables.resources
  pub ops : length told.ops.rows ≤ length tables.ops
  pub counts : length told.counts.rows ≤ length tables.counts

-- there is room for what was told of each item
pub record HaveRoom (told : ToldView) (tables : TablesView) : Type 0 where
  pub tasks : length tables.tasks ≤ told.tasks.room
  pub resources : length tables.resources ≤ told.resources.room
  pub ops : length tables.ops ≤ told.ops.room
  pub counts : length tables.counts ≤ told.counts.room
