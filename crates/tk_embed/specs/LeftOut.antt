-- What entries may leave out: items that a line would not tell of.
use Rattle.std.specs.Prelude.{◌≡◌, ℕ, Bool, true, false, List, Option}
use Rattle.std.specs.List.{AllByRecursion}
use Rattle.tk_stream.specs.Lines.{is_told, have_same_row, have_same_resource_row, have_same_op_row}
use Rattle.tk_stream.specs.Retention.{is_due, task_closed, resource_closed, op_closed}
use Rattle.tk_stream.specs.Rows.{same_counts}
use Rattle.tk_stream.specs.Tables.{TablesView, task_id, resource_id, op_id, counts_id, staying, is_among}

-- which items are left out, by their ids
pub record LeftOut : Type 0 where
  pub tasks : List ℕ
  pub resources : List ℕ
  pub ops : List ℕ
  pub counts : List ℕ

-- the tables without the items that are left out
abbrev pub leaving_out : LeftOut → TablesView → TablesView
leaving_out left tables = record tables {
  tasks = staying task_id left.tasks tables.tasks;
  resources = staying resource_id left.resources tables.resources;
  ops = staying op_id left.ops tables.ops;
  counts = staying counts_id left.counts tables.counts;
}

-- of one kind: each new item that is left out stands among the old ones, and is the same there
abbrev pub StayTheSame : {Item : Type 0} → (Item → ℕ) → (Item → Item → Bool) → List ℕ → List Item → List Item → Type 0
StayTheSame id_of same left old new = AllByRecursion (λ item. is_among left (id_of item) ≡ true → is_told id_of same old item ≡ false) new

-- what is left out didn't change between the old tables and the new ones
pub record AreUnchanged (left : LeftOut) (old new : TablesView) : Type 0 where
  pub tasks : StayTheSame task_id have_same_row left.tasks old.tasks new.tasks
  pub resources : StayTheSame resource_id have_same_resource_row left.resources old.resources new.resources
  pub ops : StayTheSame op_id have_same_op_row left.ops old.ops new.ops
  pub counts : StayTheSame counts_id same_counts left.counts old.counts new.counts

-- of one kind: no item that is left out is due
abbrev pub StayOn : {Item : Type 0} → (Item → ℕ) → (Item → Option ℕ) → ℕ → ℕ → List ℕ → List Item → Type 0
StayOn id_of closed_of retention now left items = AllByRecursion (λ item. is_among left (id_of item) ≡ true → is_due retention now (closed_of item) ≡ false) items

-- what is left out doesn't leave at this moment
pub record AreStaying (left : LeftOut) (told : TablesView) (now retention : ℕ) : Type 0 where
  pub tasks : StayOn task_id task_closed retention now left.tasks told.tasks
  pub resources : StayOn resource_id resource_closed retention now left.resources told.resources
  pub ops : StayOn op_id op_closed retention now left.ops told.ops
