-- What places show in all.
use Rattle.std.proofs.Common.{◌≡◌, ◌≤◌, ℕ, ◌+◌, List, [], ◌∷◌, ◌++◌, map, length, Option, Some, None, refl, ap, ap₂, sym, ◌∙◌, arith}
use Rattle.std.specs.Prelude.{flat_map, sum_by}
use Rattle.std.specs.Option.{option_map_or}
use Rattle.std.proofs.lemmas.List.Sums.{sum_by-append, sum_by-cons}
use Rattle.tk_core.specs.declared.task.row.TaskRow.{TaskRow}
use Rattle.tk_stream.specs.Tables.{TablesView, empty_tables, task_with}
use Rattle.tk_stream.specs.declared.tables.task.Task.{Task}
use Rattle.tk_client.specs.declared.any_warnings.AnyWarning.{AnyWarning}
use Rattle.tk_series.specs.Totals.{AddsUp}
use Rattle.tk_client.specs.Changes.{tasks_beside}
use Rattle.tk_sites.specs.Laws.{AddsUpRows, most, over_all, tasks_came, tasks_left}
use Rattle.tk_sites.specs.Lines.{listed}
use Rattle.tk_odd.specs.Places.{place_of}
use Rattle.tk_sites.specs.Sites.{came_entry, changes, changes_since, entries_of, left_entry, sites_of, there_entry, warned_entries}
use Rattle.tk_sites.specs.Sums.{came, left, plus, there, warned}
use Rattle.tk_sites.specs.Warned.{one_warning, warned_task}
use Rattle.tk_sites.specs.declared.sums.Sums.{Sums}
use Rattle.tk_sites.specs.declared.warned.Warnings.{Warnings}
use Rattle.tk_sites.proofs.SumLemmas.{all_added}

-- ---- sums over lists

-- numbers that are the same add up to the same
pub sum-same : {A : Type 0} (f g : A → ℕ) → ((x : A) → f x ≡ g x) → (xs : List A) → sum_by f xs ≡ sum_by g xs
sum-same f g same [] = refl
sum-same f g same (x ∷ xs) = sum_by-cons f x xs ∙ ap₂ (λ a b. a + b) (same x) (sum-same f g same xs) ∙ sym (sum_by-cons g x xs)

pub sum-none : {A : Type 0} (xs : List A) → sum_by (λ (x : A). 0) xs ≡ 0
sum-none [] = refl
sum-none {A} (x ∷ xs) =
    let rest = sum-none xs in
    let cons = sum_by-cons (λ (y : A). 0) x xs in
    omega (arith, rest, cons)

sum-each : {A : Type 0} (xs : List A) → sum_by (λ (x : A). 1) xs ≡ length xs
sum-each [] = refl
sum-each {A} (x ∷ xs) =
    let rest = sum-each xs in
    let cons = sum_by-cons (λ (y : A). 1) x xs in
    omega (arith, rest, cons)

module _ (number : Sums → ℕ) where
  over-map : {A : Type 0} (e : A → List ℕ × Sums) (xs : List A) → over_all number (map e xs) ≡ sum_by (λ (a : A). number (e a).1) xs
  over-map e [] = refl
  over-map {A} e (x ∷ xs) =
      sum_by-cons (λ (y : List ℕ × Sums). number y.1) (e x) (map e xs)
      ∙ ap (λ n. number (e x).1 + n) (over-map e xs)
      ∙ sym (sum_by-cons (λ (a : A). number (e a).1) x xs)

  -- ---- what places are added up from

  -- what came and left
  over-changes : (old new : TablesView) → over_all number (changes old new)
      ≡ sum_by (λ (t : Task). number came) (tasks_beside new old) + sum_by (λ (t : Task). number (left t.row)) (tasks_beside old new)
  over-changes old new =
      sum_by-append (λ (y : List ℕ × Sums). number y.1) (map came_entry (tasks_beside new old)) (map left_entry (tasks_beside old new))
      ∙ ap₂ (λ a b. a + b) (over-map came_entry (tasks_beside new old)) (over-map left_entry (tasks_beside old new))

  over-since : (old : TablesView) (shown : List TablesView) → over_all number (changes_since old shown)
      ≡ sum_by (λ (t : Task). number came) (tasks_came old shown) + sum_by (λ (t : Task). number (left t.row)) (tasks_left old shown)
  over-since old [] = refl
  over-since old (new ∷ shown) =
      let both = sum_by-append (λ (y : List ℕ × Sums). number y.1) (changes old new) (changes_since new shown) in
      let first = over-changes old new in
      let rest = over-since new shown in
      let c = sum_by-append (λ (t : Task). number came) (tasks_beside new old) (tasks_came new shown) in
      let l = sum_by-append (λ (t : Task). number (left t.row)) (tasks_beside old new) (tasks_left new shown) in
      omega (arith, both, first, rest, c, l)

  -- warnings, which have nothing of it
  over-warned : ((w : Warnings) → number (warned w) ≡ 0) → (tables : TablesView) (ws : List AnyWarning) → over_all number (flat_map (warned_entries tables) ws) ≡ 0
  over-warned none tables [] = refl
  over-warned none tables (w ∷ ws) =
      sum_by-append (λ (y : List ℕ × Sums). number y.1) (warned_entries tables w) (flat_map (warned_entries tables) ws)
      ∙ ap₂ (λ a b. a + b) (by (task_with (warned_task w) tables.tasks)) (over-warned none tables ws)
    where
      by : (o : Option Task) → over_all number (option_map_or (λ (t : Task). (place_of t.info, warned (one_warning w)) ∷ []) o []) ≡ 0
      by None = refl
      by (Some t) =
          let one = sum_by-cons (λ (y : List ℕ × Sums). number y.1) (place_of t.info, warned (one_warning w)) [] in
          let zero_is = none (one_warning w) in
          omega (arith, one, zero_is)

  over-entries : ((w : Warnings) → number (warned w) ≡ 0) → (shown : List TablesView) (tables : TablesView) (ws : List AnyWarning)
      → over_all number (entries_of shown tables ws)
      ≡ sum_by (λ (t : Task). number came) (tasks_came empty_tables shown)
      + (sum_by (λ (t : Task). number (left t.row)) (tasks_left empty_tables shown) + sum_by (λ (t : Task). number (there t.row)) tables.tasks)
  over-entries none shown tables ws =
      let all = sum_by-append (λ (y : List ℕ × Sums). number y.1) (changes_since empty_tables shown) (map there_entry tables.tasks ++ flat_map (warned_entries tables) ws) in
      let now = sum_by-append (λ (y : List ℕ × Sums). number y.1) (map there_entry tables.tasks) (flat_map (warned_entries tables) ws) in
      let since = over-since empty_tables shown in
      let are = over-map there_entry tables.tasks in
      let warn = over-warned none tables ws in
      omega (arith, all, now, since, are, warn)

-- ---- what places show

pub rows_shown : (number : Sums → ℕ) (of_row : TaskRow → ℕ) (shown : List TablesView) (tables : TablesView) (ws : List AnyWarning) → AddsUpRows number of_row
    → sum_by (λ (t : Task). of_row t.row) (tasks_left empty_tables shown) + sum_by (λ (t : Task). of_row t.row) tables.tasks ≤ most
    → over_all number (listed (sites_of shown tables ws))
    ≡ sum_by (λ (t : Task). of_row t.row) (tasks_left empty_tables shown) + sum_by (λ (t : Task). of_row t.row) tables.tasks
rows_shown number of_row shown tables ws rows fits =
    let none = sum-same (λ (t : Task). number came) (λ (t : Task). 0) (λ t. rows.came) (tasks_came empty_tables shown) ∙ sum-none (tasks_came empty_tables shown) in
    let gone = sum-same (λ (t : Task). number (left t.row)) (λ (t : Task). of_row t.row) (λ t. rows.left t.row) (tasks_left empty_tables shown) in
    let here = sum-same (λ (t : Task). number (there t.row)) (λ (t : Task). of_row t.row) (λ t. rows.there t.row) tables.tasks in
    let all = over-entries number rows.warned shown tables ws in
    let is : over_all number (entries_of shown tables ws)
    ≡ sum_by (λ (t : Task). of_row t.row) (tasks_left empty_tables shown) + sum_by (λ (t : Task). of_row t.row) tables.tasks =
    omega (arith, none, gone, here, all) in
    all_added number most rows.adds (entries_of shown tables ws) (omega (arith, is, fits)) ∙ is

pub came_shown : (shown : List TablesView) (tables : TablesView) (ws : List AnyWarning) → length (tasks_came empty_tables shown) ≤ most
    → over_all (λ (s : Sums). s.tasks) (listed (sites_of shown tables ws)) ≡ length (tasks_came empty_tables shown)
came_shown shown tables ws fits =
    let number : Sums → ℕ = λ s. s.tasks in
    let adds : AddsUp most plus number = λ a b. refl in
    let each = sum-each (tasks_came empty_tables shown) in
    let gone = sum-none (tasks_left empty_tables shown) in
    let here = sum-none tables.tasks in
    let all = over-entries number (λ w. refl) shown tables ws in
    let is : over_all number (entries_of shown tables ws) ≡ length (tasks_came empty_tables shown) = omega (arith, each, gone, here, all) in
    all_added number most adds (entries_of shown tables ws) (omega (arith, is, fits)) ∙ is

pub left_shown : (shown : List TablesView) (tables : TablesView) (ws : List AnyWarning) → length (tasks_left empty_tables shown) ≤ most
    → over_all (λ (s : Sums). s.left) (listed (sites_of shown tables ws)) ≡ length (tasks_left empty_tables shown)
left_shown shown tables ws fits =
    let number : Sums → ℕ = λ s. s.left in
    let adds : AddsUp most plus number = λ a b. refl in
    let each = sum-each (tasks_left empty_tables shown) in
    let none = sum-none (tasks_came empty_tables shown) in
    let here = sum-none tables.tasks in
    let all = over-entries number (λ w. refl) shown tables ws in
    let is : over_all number (entries_of shown tables ws) ≡ length (tasks_left empty_tables shown) = omega (arith, each, none, here, all) in
    all_added number most adds (entries_of shown tables ws) (omega (arith, is, fits)) ∙ is
