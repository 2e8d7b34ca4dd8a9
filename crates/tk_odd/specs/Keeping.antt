-- What is kept of the last line's tasks, so that a line costs what it changes. No public clause cites this.
use Rattle.std.specs.Prelude.{◌≡◌, ℕ, List, Option, Bool, false, ◌||◌, if◌then◌else◌, option_map, map, nat_eq}
use Rattle.std.specs.Option.{option_map_or}
use Rattle.std.specs.Map.{lookup}
use Rattle.indexmap.specs.IndexMap.{insert_entry}
use Rattle.tk_core.specs.declared.task.row.TaskRow.{TaskRow}
use Rattle.tk_stream.specs.Tables.{TablesView, is_among, task_with}
use Rattle.tk_stream.specs.declared.tables.task.Task.{Task}
use Rattle.tk_odd.specs.declared.kept.Kept.{Kept}
use Rattle.tk_odd.specs.declared.rows.Rows.{Rows}
use Rattle.tk_odd.specs.Gains.{waits}

-- the row of a task in tables
abbrev pub row_in : TablesView → ℕ → Option TaskRow
row_in tables id = option_map (λ (t : Task). t.row) (task_with id tables.tasks)

-- a task that runs or waits: it gains time though no line tells of it
abbrev pub lasts : TaskRow → Bool
lasts x = x.polling || x.scheduled

-- a task of tables that runs or waits
abbrev pub lasts_in : TablesView → ℕ → Bool
lasts_in tables id = option_map_or lasts (row_in tables id) false

-- the row that is kept of a task
abbrev pub kept_row : List (ℕ × Kept) → ℕ → Option TaskRow
kept_row rows id = option_map (λ (k : Kept). k.row) (lookup (nat_eq id) rows)

-- of each task of tables the row is kept, and which of these tasks run or wait
pub record Keeps (tables : TablesView) (r : Rows) : Type 0 where
  pub moment : r.moment ≡ tables.now
  pub rows : (id : ℕ) → kept_row r.rows.entries id ≡ row_in tables id
  pub lasting : (id : ℕ) → is_among r.lasting.keys id ≡ lasts_in tables id

-- a task is looked at after a line: the line tells of it, or it ran or waited before
abbrev pub may_gain : List ℕ → List ℕ → Task → Bool
may_gain told lasting t = is_among told t.info.id || is_among lasting t.info.id

-- rows of tasks that wait, and one more, if it does
abbrev pub with_waiter : List (ℕ × Kept) → Task → List (ℕ × Kept)
with_waiter rows t = if waits t.row then insert_entry nat_eq rows t.info.id (record { row = t.row }) else rows

-- the rows, without how they are kept
abbrev pub plain_rows : List (ℕ × Kept) → List (ℕ × TaskRow)
plain_rows rows = map (λ (e : ℕ × Kept). (e.0, e.1.row)) rows
