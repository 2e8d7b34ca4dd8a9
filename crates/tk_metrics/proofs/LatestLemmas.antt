-- The last histograms of the tasks that are there.
use Rattle.std.proofs.Common.{◌≡◌, ◌++◌, ℕ, zero, suc, List, [], ◌∷◌, map, filter, not, is_some, Bool, true, false, cond, ◌||◌, nat_eq, Option, Some, None, slice_get, refl, sym, ap, ◌∙◌, subst, true≢false}
use Rattle.std.specs.Prelude.{flat_map}
use Rattle.std.proofs.lemmas.Bool.{eqb-true, eq-eqb}
use Rattle.std.specs.List.{AllByRecursion, find}
use Rattle.std.specs.Option.{option_map_or}
use Rattle.tk_stream.specs.Tables.{TablesView, is_among, item_with, put_item, staying, task_with}
use Rattle.tk_stream.specs.Times.{TaskTimes, times_id}
use Rattle.tk_stream.specs.declared.tables.task.Task.{Task}
use Rattle.tk_client.specs.Changes.{ChangeView, IsChange, Timed, has_task, left_as, left_id, tasks_beside}
use Rattle.tk_client.specs.declared.change.LeftTask.{LeftTask}
use Rattle.tk_metrics.specs.Timed.{Agrees}

-- ---- one histogram

-- an item that is found has the id
found_id : (id : ℕ) (xs : List TaskTimes) (e : TaskTimes) → item_with times_id id xs ≡ Some e → id ≡ times_id e
found_id id [] e is = absurd (true≢false (ap is_some (sym is)))
found_id id (x ∷ xs) e is = by (nat_eq id (times_id x)) refl is (found_id id xs e)
  where
    by : (b : Bool) → nat_eq id (times_id x) ≡ b → cond b (Some x) (item_with times_id id xs) ≡ Some e → (item_with times_id id xs ≡ Some e → id ≡ times_id e) → id ≡ times_id e
    by true h found more = let same : x ≡ e = cc in eqb-true id (times_id x) h ∙ ap times_id same
    by false h found more = more found

-- what is found once an item was put
found_put : (item : TaskTimes) (other : ℕ) (xs : List TaskTimes)
    → item_with times_id other (put_item times_id item xs) ≡ cond (nat_eq other (times_id item)) (Some item) (item_with times_id other xs)
found_put item other [] = refl
found_put item other (x ∷ xs) = by (nat_eq (times_id item) (times_id x)) refl (found_put item other xs)
  where
    twice : (a b : Bool) → a ≡ b → cond a (Some item) (item_with times_id other xs) ≡ cond a (Some item) (cond b (Some x) (item_with times_id other xs))
    twice true b e = refl
    twice false true e = absurd (true≢false (sym e))
    twice false false e = refl

    swapped : (a b : Bool) → (a ≡ true → b ≡ true → ⊥) → cond b (Some x) (cond a (Some item) (item_with times_id other xs)) ≡ cond a (Some item) (cond b (Some x) (item_with times_id other xs))
    swapped true true apart = absurd (apart refl refl)
    swapped true false apart = refl
    swapped false b apart = refl

    by : (s : Bool) → nat_eq (times_id item) (times_id x) ≡ s
        → item_with times_id other (put_item times_id item xs) ≡ cond (nat_eq other (times_id item)) (Some item) (item_with times_id other xs)
        → item_with times_id other (cond s (item ∷ xs) (x ∷ put_item times_id item xs)) ≡ cond (nat_eq other (times_id item)) (Some item) (cond (nat_eq other (times_id x)) (Some x) (item_with times_id other xs))
    by true s more = twice (nat_eq other (times_id item)) (nat_eq other (times_id x)) (ap (nat_eq other) (eqb-true (times_id item) (times_id x) s))
    by false s more =
        ap (λ o. cond (nat_eq other (times_id x)) (Some x) o) more
        ∙ swapped (nat_eq other (times_id item)) (nat_eq other (times_id x))
        (λ a b. true≢false (sym (eq-eqb (times_id item) (times_id x) (sym (eqb-true other (times_id item) a) ∙ eqb-true other (times_id x) b)) ∙ s))

-- once an id has left
found_staying : (id other : ℕ) (xs : List TaskTimes)
    → item_with times_id other (staying times_id (id ∷ []) xs) ≡ cond (nat_eq other id) None (item_with times_id other xs)
found_staying id other [] = by (nat_eq other id)
  where
    by : (b : Bool) → item_with times_id other [] ≡ cond b None (item_with times_id other [])
    by true = refl
    by false = refl
found_staying id other (x ∷ xs) = by (nat_eq (times_id x) id) refl (nat_eq other (times_id x)) refl (found_staying id other xs)
  where
    rest : List TaskTimes
    rest = staying times_id (id ∷ []) xs

    apart : (a b : Bool) → a ≡ b → item_with times_id other rest ≡ cond b None (item_with times_id other xs) → item_with times_id other rest ≡ cond b None (cond a (Some x) (item_with times_id other xs))
    apart a true e more = more
    apart true false e more = absurd (true≢false e)
    apart false false e more = more

    by : (out : Bool) → nat_eq (times_id x) id ≡ out → (h : Bool) → nat_eq other (times_id x) ≡ h
        → item_with times_id other rest ≡ cond (nat_eq other id) None (item_with times_id other xs)
        → item_with times_id other (cond (not (out || false)) (x ∷ rest) rest) ≡ cond (nat_eq other id) None (cond h (Some x) (item_with times_id other xs))
    by true e h f more = apart h (nat_eq other id) (sym f ∙ ap (nat_eq other) (eqb-true (times_id x) id e)) more
    by false e true f more =
        let away : nat_eq other id ≡ false = ap (λ n. nat_eq n id) (eqb-true other (times_id x) f) ∙ e in
        ap (λ b. cond b (Some x) (item_with times_id other rest)) f ∙ sym (ap (λ b. cond b None (Some x)) away)
    by false e false f more = ap (λ b. cond b (Some x) (item_with times_id other rest)) f ∙ more

module _ (id : ℕ) (times old : List TaskTimes) where
  abbrev LearnedOne : List TaskTimes → Type 0
  LearnedOne new = (other : ℕ) → item_with times_id other new ≡ cond (nat_eq other id) (item_with times_id other times) (item_with times_id other old)

  pick : (other : ℕ) (o : Option TaskTimes) → item_with times_id id times ≡ o
      → (b : Bool) → nat_eq other id ≡ b → cond b o (item_with times_id other old) ≡ cond b (item_with times_id other times) (item_with times_id other old)
  pick other o is true e = sym is ∙ ap (λ n. item_with times_id n times) (sym (eqb-true other id e))
  pick other o is false e = refl

  -- its histogram was put
  pub learned_some : (new : List TaskTimes) (e : TaskTimes) → item_with times_id id times ≡ Some e → new ≡ put_item times_id e old → LearnedOne new
  learned_some new e is put other =
      ap (item_with times_id other) put ∙ found_put e other old
      ∙ ap (λ n. cond (nat_eq other n) (Some e) (item_with times_id other old)) (sym (found_id id times e is))
      ∙ pick other (Some e) is (nat_eq other id) refl

  -- or it has none
  pub learned_none : (new : List TaskTimes) → item_with times_id id times ≡ None → new ≡ staying times_id (id ∷ []) old → LearnedOne new
  learned_none new is left other =
      ap (item_with times_id other) left ∙ found_staying id other old ∙ pick other None is (nat_eq other id) refl

-- one more was learned
pub learned_next : (a b : Bool) (t o : Option TaskTimes) → cond b t (cond a t o) ≡ cond (a || b) t o
learned_next true true t o = refl
learned_next true false t o = refl
learned_next false b t o = refl

-- ---- those that left

-- one of these has no other id
pub not_left : (other : ℕ) (left : List LeftTask) (i : ℕ) (one : LeftTask) → slice_get left i ≡ Some one → is_among (map left_id left) other ≡ false → nat_eq other (left_id one) ≡ false
not_left other [] i one is away = absurd (true≢false (ap is_some (sym is)))
not_left other (l ∷ left) zero one is away =
    let same : l ≡ one = cc in
    ap (λ (x : LeftTask). nat_eq other (left_id x)) (sym same) ∙ neither (nat_eq other (left_id l)) (is_among (map left_id left) other) away
  where
    neither : (a b : Bool) → (a || b) ≡ false → a ≡ false
    neither true b e = e
    neither false b e = refl
not_left other (l ∷ left) (suc i) one is away = not_left other left i one is (rest (nat_eq other (left_id l)) (is_among (map left_id left) other) away)
  where
    rest : (a b : Bool) → (a || b) ≡ false → b ≡ false
    rest true b e = absurd (true≢false e)
    rest false b e = e

-- without its histogram others are as they were
pub forgotten : (id other : ℕ) (old new : List TaskTimes) → new ≡ staying times_id (id ∷ []) old → nat_eq other id ≡ false → item_with times_id other new ≡ item_with times_id other old
forgotten id other old new is away =
    ap (item_with times_id other) is ∙ found_staying id other old ∙ ap (λ b. cond b None (item_with times_id other old)) away

-- a task that is there hasn't left
stays_there : (now : TablesView) (times : List TaskTimes) (id : ℕ) → has_task now id ≡ true → (ts : List Task)
    → is_among (map left_id (map (left_as times) (filter (λ (t : Task). not (has_task now t.info.id)) ts))) id ≡ false
stays_there now times id there [] = refl
stays_there now times id there (t ∷ ts) = by (has_task now t.info.id) refl (nat_eq id t.info.id) refl (stays_there now times id there ts)
  where
    by : (h : Bool) → has_task now t.info.id ≡ h → (b : Bool) → nat_eq id t.info.id ≡ b
        → is_among (map left_id (map (left_as times) (filter (λ (u : Task). not (has_task now u.info.id)) ts))) id ≡ false
        → is_among (map left_id (map (left_as times) (cond (not h) (t ∷ filter (λ (u : Task). not (has_task now u.info.id)) ts) (filter (λ (u : Task). not (has_task now u.info.id)) ts)))) id ≡ false
    by true e b f more = more
    by false e true f more = absurd (true≢false (sym there ∙ ap (has_task now) (eqb-true id t.info.id f) ∙ e))
    by false e false f more = ap (λ b. b || is_among (map left_id (map (left_as times) (filter (λ (u : Task). not (has_task now u.info.id)) ts))) id) f ∙ more

-- ---- a line

pub agrees_more : (before : Timed) (tables : TablesView) (times : List TaskTimes) (change : ChangeView) (old mid new : List TaskTimes) → IsChange before (tables, times) change → Agrees before old
    → ((other : ℕ) → is_among (map left_id change.left) other ≡ false → item_with times_id other mid ≡ item_with times_id other old)
    → ((other : ℕ) → item_with times_id other new ≡ cond (is_among change.told other) (item_with times_id other times) (item_with times_id other mid))
    → Agrees (tables, times) new
agrees_more before tables times change old mid new is agrees forgets learns id there = learns id ∙ by (is_among change.told id) refl
  where
    away : is_among (map left_id change.left) id ≡ false
    away = ap (λ (ls : List LeftTask). is_among (map left_id ls) id) is.left ∙ stays_there tables before.1 id there before.0.tasks

    by : (b : Bool) → is_among change.told id ≡ b → cond b (item_with times_id id times) (item_with times_id id mid) ≡ item_with times_id id times
    by true e = refl
    by false e =
        let same = is.same id e there in
        forgets id away ∙ agrees id (ap is_some (sym same.task) ∙ there) ∙ sym same.times

-- ---- all that are there

-- each of these tasks is found among more
there_more : (t : Task) (ts us : List Task) → AllByRecursion (λ (u : Task). is_some (task_with u.info.id us) ≡ true) ts → AllByRecursion (λ (u : Task). is_some (task_with u.info.id (t ∷ us)) ≡ true) ts
there_more t [] us all = tt
there_more t (u ∷ ts) us all = (by (nat_eq u.info.id t.info.id) all.0, there_more t ts us all.1)
  where
    by : (b : Bool) → is_some (task_with u.info.id us) ≡ true → is_some (cond b (Some t) (task_with u.info.id us)) ≡ true
    by true e = refl
    by false e = e

all_there : (ts : List Task) → AllByRecursion (λ (u : Task). is_some (task_with u.info.id ts) ≡ true) ts
all_there [] = tt
all_there (t ∷ ts) = (ap (λ b. is_some (cond b (Some t) (task_with t.info.id ts))) (eq-eqb t.info.id t.info.id refl), there_more t ts ts (all_there ts))

-- what is the same of each task is the same of all
pub all_same : {A : Type 0} (f g : Task → List A) (last : Timed) → ((t : Task) → has_task last.0 t.info.id ≡ true → f t ≡ g t) → flat_map f last.0.tasks ≡ flat_map g last.0.tasks
all_same {A} f g last same = by last.0.tasks (all_there last.0.tasks)
  where
    by : (ts : List Task) → AllByRecursion (λ (u : Task). is_some (task_with u.info.id last.0.tasks) ≡ true) ts → flat_map f ts ≡ flat_map g ts
    by [] all = refl
    by (t ∷ ts) all = ap (λ ys. ys ++ flat_map f ts) (same t all.0) ∙ ap (λ ys. g t ++ ys) (by ts all.1)
