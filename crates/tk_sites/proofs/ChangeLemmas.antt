-- What comes and leaves with one line more.
use Rattle.std.proofs.Common.{◌≡◌, ℕ, Option, Bool, true, false, cond, List, [], ◌∷◌, ◌++◌, map, refl, ap, sym, ◌∙◌, append_assoc, append-nil}
use Rattle.std.specs.Prelude.{filter, not, nat_eq}
use Rattle.std.specs.List.{AllByRecursion, IsDistinct}
use Rattle.tk_stream.specs.Tables.{TablesView, empty_tables, task_id}
use Rattle.tk_stream.specs.Times.{TaskTimes}
use Rattle.tk_stream.specs.declared.tables.task.Task.{Task}
use Rattle.tk_client.specs.Changes.{ChangeView, IsChange, Timed, has_task, left_as, tasks_beside}
use Rattle.tk_client.proofs.IdLemmas.{own}
use Rattle.tk_reading.specs.Shown.{last_shown}
use Rattle.tk_series.specs.Limited.{LimitedView, limited}
use Rattle.tk_sites.specs.Adding.{AreThere, left_as_shown}
use Rattle.tk_sites.specs.Inner.{Follows}
use Rattle.tk_sites.specs.Site.{room}
use Rattle.tk_sites.specs.Sites.{came_entry, changes, changes_since, left_entry}
use Rattle.tk_sites.specs.Sums.{plus}
use Rattle.tk_sites.specs.declared.sites.Sites.{Sites}
use Rattle.tk_sites.specs.declared.sums.Sums.{Sums}

pub changes_more : (old : TablesView) (shown : List TablesView) (t : TablesView)
    → changes_since old (shown ++ t ∷ []) ≡ changes_since old shown ++ changes (last_shown old shown) t
changes_more old [] t = append-nil (changes old t)
changes_more old (s ∷ shown) t =
    ap (λ xs. changes old s ++ xs) (changes_more s shown t)
    ∙ sym (append_assoc (changes old s) (changes_since s shown) (changes (last_shown s shown) t))

all-kept : {X : Type 0} (P : X → Type 0) (p : X → Bool) (xs : List X) → AllByRecursion P xs → AllByRecursion P (filter p xs)
all-kept P p [] all = tt
all-kept P p (x ∷ xs) all = by (p x) (all-kept P p xs all.1)
  where
    by : (b : Bool) → AllByRecursion P (filter p xs) → AllByRecursion P (cond b (x ∷ filter p xs) (filter p xs))
    by true rest = (all.0, rest)
    by false rest = rest

-- those that came are found by their ids
pub found : (t others : TablesView) → IsDistinct nat_eq (map task_id t.tasks) → AreThere t (tasks_beside t others)
found t others once = all-kept _ (λ (x : Task). not (has_task others x.info.id)) t.tasks (own task_id t.tasks once)

-- of those that left stands what they were
left-entries : (times : List TaskTimes) (ts : List Task) → map left_as_shown (map (left_as times) ts) ≡ map left_entry ts
left-entries times [] = refl
left-entries times (t ∷ ts) = ap (λ xs. left_entry t ∷ xs) (left-entries times ts)

module _ (shown : List TablesView) (before now : Timed) (change : ChangeView) (is : IsChange before now change) (last : before.0 ≡ last_shown empty_tables shown)
    (once : IsDistinct nat_eq (map task_id now.0.tasks)) (old new : Sites) (came : LimitedView Sums) (h : Follows shown old) where
  -- what came and what left was added
  pub noted : ((bs : List (List ℕ × Sums)) (tasks : List Task) → old.changes ≡ limited room plus bs → change.came ≡ map task_id tasks → AreThere now.0 tasks → came ≡ limited room plus (bs ++ map came_entry tasks))
      → ((bs : List (List ℕ × Sums)) → came ≡ limited room plus bs → new.changes ≡ limited room plus (bs ++ map left_as_shown change.left))
      → Follows (shown ++ now.0 ∷ []) new
  noted comes leaves =
      let since = changes_since empty_tables shown in
      let coming = tasks_beside now.0 before.0 in
      let first = comes since coming h.changes is.came (found now.0 before.0 once) in
      record {
        changes = leaves (since ++ map came_entry coming) first
            ∙ ap (λ xs. limited room plus ((since ++ map came_entry coming) ++ xs)) (ap (map left_as_shown) is.left ∙ left-entries before.1 (tasks_beside before.0 now.0))
            ∙ ap (limited room plus) (append_assoc since (map came_entry coming) (map left_entry (tasks_beside before.0 now.0)))
            ∙ ap (λ b. limited room plus (since ++ changes b now.0)) last
            ∙ ap (limited room plus) (sym (changes_more empty_tables shown now.0));
      }
