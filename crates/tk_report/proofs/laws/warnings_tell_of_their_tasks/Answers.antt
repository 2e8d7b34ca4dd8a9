use Rattle.std.proofs.Common.{◌≡◌, ℕ, List, [], ◌∷◌, ◌++◌, Some, ap, ap₂, ◌∙◌, refl, sym, append_assoc}
use Rattle.std.specs.Prelude.{flat_map}
use Rattle.std.specs.List.{AllByRecursion}
use Rattle.std.specs.Option.{option_map_or}
use Rattle.tk_stream.specs.declared.tables.task.Task.{Task}
use Rattle.tk_stream.specs.Tables.{TablesView, task_with}
use Rattle.tk_client.specs.declared.warning.Warning.{Warning}
use Rattle.tk_client.specs.Warnings.{LintsView, warnings_of}
use Rattle.tk_report.specs.Report.{warn_line, warn_line_of}
use Rattle.tk_report.proofs.laws.warnings_tell_of_their_tasks.Goals as goal

flat_append : {A B : Type 0} (f : A → List B) (xs ys : List A) → flat_map f (xs ++ ys) ≡ flat_map f xs ++ flat_map f ys
flat_append f [] ys = refl
flat_append f (x ∷ xs) ys = ap (λ zs. f x ++ zs) (flat_append f xs ys) ∙ sym (append_assoc (f x) (flat_map f xs) (flat_map f ys))

-- the lines of warnings that find a task
own_lines : (tables : TablesView) (t : Task) (warnings : List Warning) → AllByRecursion (λ (w : Warning). task_with w.task tables.tasks ≡ Some t) warnings
    → flat_map (warn_line tables) warnings ≡ flat_map (warn_line_of tables.now t.row) warnings
own_lines tables t [] found = refl
own_lines tables t (w ∷ ws) found =
    ap₂ (λ a b. a ++ b) (ap (λ o. option_map_or (λ (x : Task). warn_line_of tables.now x.row w) o []) found.0) (own_lines tables t ws found.1)

module _ (lints : LintsView) (tables : TablesView) where
  lines : (tasks : List Task)
      → AllByRecursion (λ (t : Task). AllByRecursion (λ (w : Warning). task_with w.task tables.tasks ≡ Some t) (warnings_of lints tables.now t)) tasks
      → flat_map (warn_line tables) (flat_map (warnings_of lints tables.now) tasks)
      ≡ flat_map (λ (t : Task). flat_map (warn_line_of tables.now t.row) (warnings_of lints tables.now t)) tasks
  lines [] found = refl
  lines (t ∷ ts) found =
      flat_append (warn_line tables) (warnings_of lints tables.now t) (flat_map (warnings_of lints tables.now) ts)
      ∙ ap₂ (λ a b. a ++ b) (own_lines tables t (warnings_of lints tables.now t) found.0) (lines ts found.1)

pub returns : goal.returns
returns c lints tables distinct = lines lints tables tables.tasks (c.warnings_find_their_tasks.ensures lints tables distinct)
