-- All warnings where neither long polls nor long waits are asked for.
use Rattle.std.proofs.Common.{◌≡◌, ℕ, List, [], ◌∷◌, ◌++◌, ap, ap₂, sym, ◌∙◌, append-nil, refl}
use Rattle.std.specs.Prelude.{flat_map, map}
use Rattle.tk_stream.specs.declared.tables.task.Task.{Task}
use Rattle.tk_stream.specs.Tables.{TablesView}
use Rattle.tk_stream.specs.Times.{TaskTimes}
use Rattle.tk_client.specs.declared.any_warnings.AnyWarning.TheVariants.{Usual}
use Rattle.tk_client.specs.AnyWarnings.{all_warnings_in, all_warnings_of, no_limits}
use Rattle.tk_client.specs.Warnings.{LintsView, warnings_in, warnings_of}

map_append : {A B : Type 0} (f : A → B) (xs ys : List A) → map f (xs ++ ys) ≡ map f xs ++ map f ys
map_append f [] ys = refl
map_append f (x ∷ xs) ys = ap (λ zs. f x ∷ zs) (map_append f xs ys)

module _ (lints : LintsView) (now : ℕ) (times : List TaskTimes) where
  of_tasks : (tasks : List Task) → flat_map (all_warnings_of lints no_limits now times) tasks ≡ map Usual (flat_map (warnings_of lints now) tasks)
  of_tasks [] = refl
  of_tasks (t ∷ ts) =
      ap₂ (λ xs ys. xs ++ ys) (append-nil (map Usual (warnings_of lints now t))) (of_tasks ts)
      ∙ sym (map_append Usual (warnings_of lints now t) (flat_map (warnings_of lints now) ts))

-- they are those that tables have without histograms
pub usual_alone : (lints : LintsView) (tables : TablesView) (times : List TaskTimes) → all_warnings_in lints no_limits tables times ≡ map Usual (warnings_in lints tables)
usual_alone lints tables times = of_tasks lints tables.now times tables.tasks
