use Rattle.std.proofs.Common.{◌≡◌, ℕ, List, [], ◌∷◌, ◌++◌, Bool, true, false, Some, if◌then◌else◌}
use Rattle.std.specs.List.{AllByRecursion}
use Rattle.tk_stream.specs.declared.tables.task.Task.{Task}
use Rattle.tk_stream.specs.Tables.{task_id, task_with}
use Rattle.tk_client.specs.declared.warning.Warning.{Warning}
use Rattle.tk_client.specs.declared.warning.WarningKind.{WarningKind}
use Rattle.tk_client.specs.declared.warning.WarningKind.TheVariants.{SelfWakes, LostWaker, NeverYielded}
use Rattle.tk_client.specs.Warnings.{LintsView, has_lost_waker, has_never_yielded, is_spawn, wakes_itself, warning_if, warnings_of}
use Rattle.tk_client.proofs.IdLemmas.{own}
use Rattle.tk_client.proofs.laws.warnings_find_their_tasks.Goals as goal

all_append : {A : Type 0} (P : A → Type 0) (xs ys : List A) → AllByRecursion P xs → AllByRecursion P ys → AllByRecursion P (xs ++ ys)
all_append P [] ys a b = b
all_append P (x ∷ xs) ys a b = (a.0, all_append P xs ys a.1 b)

each : {A : Type 0} (P Q : A → Type 0) → ((x : A) → P x → Q x) → (xs : List A) → AllByRecursion P xs → AllByRecursion Q xs
each P Q f [] all = tt
each P Q f (x ∷ xs) all = (f x all.0, each P Q f xs all.1)

-- what holds of a task's id holds of the task of each of its warnings
module _ (P : ℕ → Type 0) where
  one : (holds : Bool) (id : ℕ) (kind : WarningKind) → P id → AllByRecursion (λ (w : Warning). P w.task) (warning_if holds id kind)
  one true id kind p = (p, tt)
  one false id kind p = tt

  of_task : (lints : LintsView) (now : ℕ) (t : Task) → P t.info.id → AllByRecursion (λ (w : Warning). P w.task) (warnings_of lints now t)
  of_task lints now t p =
      let self = warning_if (wakes_itself lints.self_wake_percent t.row) t.info.id SelfWakes in
      let lost = warning_if (has_lost_waker t.row) t.info.id LostWaker in
      let never = warning_if (has_never_yielded lints.never_yielded_ns now t.row) t.info.id NeverYielded in
      go self lost never (one _ t.info.id SelfWakes p) (one _ t.info.id LostWaker p) (one _ t.info.id NeverYielded p) (is_spawn t.info.kind)
    where
      go : (a b c : List Warning) → AllByRecursion (λ (w : Warning). P w.task) a → AllByRecursion (λ (w : Warning). P w.task) b
          → AllByRecursion (λ (w : Warning). P w.task) c → (spawn : Bool) → AllByRecursion (λ (w : Warning). P w.task) (if spawn then a ++ (b ++ c) else [])
      go a b c all_a all_b all_c true = all_append _ a (b ++ c) all_a (all_append _ b c all_b all_c)
      go a b c all_a all_b all_c false = tt

pub returns : goal.returns
returns c lints tables distinct =
    each (λ t. task_with (task_id t) tables.tasks ≡ Some t) _ (λ t found. of_task (λ id. task_with id tables.tasks ≡ Some t) lints tables.now t found)
    tables.tasks (own task_id tables.tasks distinct.tasks)
