-- What the laws say of places.
use Rattle.std.specs.Prelude.{◌≡◌, ℕ, ◌^◌, ◌-◌, List, [], ◌∷◌, ◌++◌, sum_by, Bool, true}
use Rattle.std.specs.List.{list_all}
use Rattle.std.specs.Option.{option_map_or}
use Rattle.std.specs.Str.{bytes_eq}
use Rattle.tk_core.specs.declared.task.row.TaskRow.{TaskRow}
use Rattle.tk_stream.specs.Tables.{TablesView, empty_tables, task_with}
use Rattle.tk_stream.specs.declared.tables.task.Task.{Task}
use Rattle.tk_client.specs.Changes.{tasks_beside}
use Rattle.tk_client.specs.declared.any_warnings.AnyWarning.{AnyWarning}
use Rattle.tk_series.specs.Limited.{LimitedView}
use Rattle.tk_series.specs.Totals.{AddsUp}
use Rattle.tk_odd.specs.Places.{place_of}
use Rattle.tk_reading.specs.Shown.{last_shown}
use Rattle.tk_sites.specs.Sites.{sites_of}
use Rattle.tk_sites.specs.Sums.{came, left, plus, there, warned}
use Rattle.tk_sites.specs.declared.sums.Sums.{Sums}
use Rattle.tk_sites.specs.declared.warned.Warnings.{Warnings}

-- ---- sums

-- the greatest number that is shown
abbrev pub most : ℕ
most = 2 ^ 64 - 1

-- the sum of a number over all places
abbrev pub over_all : {V : Type 0} → (V → ℕ) → List (List ℕ × V) → ℕ
over_all number xs = sum_by (λ x. number x.1) xs

-- the tasks that came since tables, line by line
abbrev pub tasks_came : TablesView → List TablesView → List Task
tasks_came old [] = []
tasks_came old (new ∷ shown) = tasks_beside new old ++ tasks_came new shown

-- the tasks that left since tables, each as it was last shown
abbrev pub tasks_left : TablesView → List TablesView → List Task
tasks_left old [] = []
tasks_left old (new ∷ shown) = tasks_beside old new ++ tasks_left new shown

-- a number of places adds up one of rows: of tasks that left, and of those that are there
pub record AddsUpRows (number : Sums → ℕ) (of_row : TaskRow → ℕ) : Type 0 where
  pub adds : AddsUp most plus number
  pub came : number came ≡ 0
  pub left : (x : TaskRow) → number (left x) ≡ of_row x
  pub there : (x : TaskRow) → number (there x) ≡ of_row x
  pub warned : (w : Warnings) → number (warned w) ≡ 0

-- ---- the order of places

-- the places after these lines, with these warnings
abbrev pub sites_after : List TablesView → List AnyWarning → LimitedView Sums
sites_after shown warnings = sites_of shown (last_shown empty_tables shown) warnings

-- a task is of the place that it had in tables, if it was there
abbrev pub stays_at : TablesView → Task → Bool
stays_at old t = option_map_or (λ (s : Task). bytes_eq (place_of t.info) (place_of s.info)) (task_with t.info.id old.tasks) true

-- no task changes its place while it is there: only a wrong writer tells an id with another place
abbrev pub AreSteady : TablesView → List TablesView → Type 0
AreSteady old [] = Unit {0}
AreSteady old (new ∷ shown) = (list_all (stays_at old) new.tasks ≡ true) × AreSteady new shown
