-- What is noted of a line, one item after the other.
use Rattle.std.proofs.Common.{◌≡◌, ℕ, zero, suc, ◌+◌, ◌<◌, List, [], ◌∷◌, ◌++◌, length, take, get_or, slice_get, Bool, true, false, cond, nat_eq, Option, Some, None, refl, ap, ap₂, sym, subst, ◌∙◌, append-nil, append_assoc, arith, add-one}
use Rattle.std.specs.List.{IsDistinct}
use Rattle.std.specs.Prelude.{map, filter, flat_map, option_map, ◌||◌}
use Rattle.std.proofs.lemmas.Bool.{eqb-true}
use Rattle.std.specs.Option.{option_map_or, option_to_list}
use Rattle.std.proofs.lemmas.List.{map-append, take_all}
use Rattle.std.proofs.lemmas.List.Elements.{filter-append}
use Rattle.std.proofs.lemmas.List.Folds.{list_any-append}
use Rattle.tk_ids.specs.declared.info.TaskInfo.{TaskInfo}
use Rattle.tk_stream.specs.declared.tables.task.Task.{Task}
use Rattle.tk_stream.specs.Tables.{is_among, task_id}
use Rattle.tk_stream.specs.Times.{TaskTimes}
use Rattle.tk_client.specs.declared.change.LeftTask.{LeftTask}
use Rattle.tk_client.specs.Candidates.{places_by, places_with}
use Rattle.tk_client.specs.Changes.{is_one_of, left_as}
use Rattle.tk_client.specs.Changing.{left_at}
use Rattle.tk_client.specs.Taking.{new_id}
use Rattle.tk_client.proofs.AbleLemmas.{among-places, next-of, none-there, stands}
use Rattle.tk_client.proofs.TimesLemmas.{infos_next}

put-last : {X : Type 0} (b : Bool) (x : X) (xs : List X) → cond b (xs ++ x ∷ []) xs ≡ xs ++ cond b (x ∷ []) []
put-last true x xs = refl
put-last false x xs = sym (append-nil xs)

-- ---- those that came

pub came-next : (p : ℕ → Bool) (infos : List TaskInfo) (i : ℕ) (x : TaskInfo) → i < length infos → x ≡ get_or infos i x → (ids : List ℕ) → ids ≡ filter p (map new_id (take i infos))
    → cond (p x.id) (ids ++ x.id ∷ []) ids ≡ filter p (map new_id (take (i + 1) infos))
came-next p infos i x lt is ids so_far =
    put-last (p x.id) x.id ids
    ∙ ap (λ ys. ys ++ filter p (x.id ∷ [])) so_far
    ∙ sym (filter-append p (map new_id (take i infos)) (x.id ∷ []))
    ∙ ap (filter p) (sym (map-append new_id (take i infos) (x ∷ [])))
    ∙ ap (λ (ys : List TaskInfo). filter p (map new_id ys)) (sym (infos_next infos i x lt is))

-- ---- those that are told of

or_false : (b : Bool) → (b || false) ≡ b
or_false true = refl
or_false false = refl

-- one more
pub among-next : (ids : List ℕ) (id other : ℕ) → (is_among ids other || nat_eq other id) ≡ is_among (ids ++ id ∷ []) other
among-next ids id other = ap (λ b. is_among ids other || b) (sym (or_false (nat_eq other id))) ∙ sym (list_any-append (λ n. nat_eq other n) ids (id ∷ []))

-- one more goes in, where it isn't there
pub among-insert : (keys next : List ℕ) (id : ℕ) → next ≡ cond (is_among keys id) keys (keys ++ id ∷ []) → (other : ℕ) → is_among next other ≡ (is_among keys other || nat_eq other id)
among-insert keys next id is other = ap (λ ks. is_among ks other) is ∙ by (is_among keys id) refl
  where
    there : (b : Bool) → nat_eq other id ≡ b → is_among keys id ≡ true → is_among keys other ≡ (is_among keys other || b)
    there true e h = let here : is_among keys other ≡ true = ap (is_among keys) (eqb-true other id e) ∙ h in here ∙ ap (λ b. b || true) (sym here)
    there false e h = sym (or_false (is_among keys other))

    by : (b : Bool) → is_among keys id ≡ b → is_among (cond b keys (keys ++ id ∷ [])) other ≡ (is_among keys other || nat_eq other id)
    by true h = there (nat_eq other id) refl h
    by false h = sym (among-next keys id other)

-- ---- those that left

module _ {X : Type 0} (test : X → Bool) where
  -- the place of one more, if it passes the test
  places-from : (b : ℕ) (xs : List X) (i n : ℕ) → n ≡ b + i → places_by test b (take i xs) ++ cond (stands test xs i) (n ∷ []) [] ≡ places_by test b (take (suc i) xs)
  places-from b [] zero n is = refl
  places-from b [] (suc i) n is = refl
  places-from b (x ∷ xs) zero n is = let same : n ≡ b = omega (arith, is) in ap (λ m. cond (test x) (m ∷ []) []) same
  places-from b (x ∷ xs) (suc i) n is = by (test x) (places-from (suc b) xs i n (omega (arith, is)))
    where
      by : (t : Bool) → places_by test (suc b) (take i xs) ++ cond (stands test xs i) (n ∷ []) [] ≡ places_by test (suc b) (take (suc i) xs)
          → cond t (b ∷ places_by test (suc b) (take i xs)) (places_by test (suc b) (take i xs)) ++ cond (stands test xs i) (n ∷ []) []
          ≡ cond t (b ∷ places_by test (suc b) (take (suc i) xs)) (places_by test (suc b) (take (suc i) xs))
      by true e = ap (λ ps. b ∷ ps) e
      by false e = e

  pub places-next : (xs : List X) (i : ℕ) (places : List ℕ) → places ≡ places_by test 0 (take i xs)
      → cond (stands test xs i) (places ++ i ∷ []) places ≡ places_by test 0 (take (i + 1) xs)
  places-next xs i places so_far =
      put-last (stands test xs i) i places
      ∙ ap (λ ps. ps ++ cond (stands test xs i) (i ∷ []) []) so_far
      ∙ places-from 0 xs i i (omega arith)
      ∙ ap (λ n. places_by test 0 (take n xs)) (sym (add-one i))

-- a test that is the same has the same places
pub places-same : {X : Type 0} (p q : X → Bool) (b : ℕ) (xs : List X) → ((x : X) → p x ≡ q x) → places_by p b xs ≡ places_by q b xs
places-same p q b [] same = refl
places-same p q b (x ∷ xs) same = ap₂ (λ t ps. cond t (b ∷ ps) ps) (same x) (places-same p q (suc b) xs same)

-- one more that left
pub left-next : (times : List TaskTimes) (tasks : List Task) (places : List ℕ) (i : ℕ) → i < length places → (left : List LeftTask) → left ≡ flat_map (left_at times tasks) (take i places)
    → option_map_or (λ (t : Task). left ++ left_as times t ∷ []) (slice_get tasks (get_or places i 0)) left ≡ flat_map (left_at times tasks) (take (i + 1) places)
left-next times tasks places i lt left so_far =
    by (slice_get tasks (get_or places i 0))
    ∙ ap (λ ls. ls ++ left_at times tasks (get_or places i 0)) so_far
    ∙ sym (next-of (left_at times tasks) places i 0 lt)
  where
    by : (o : Option Task) → option_map_or (λ (t : Task). left ++ left_as times t ∷ []) o left ≡ left ++ option_to_list (option_map (left_as times) o)
    by None = sym (append-nil left)
    by (Some t) = refl

-- those at the places of what passes a test are those that pass
module _ (times : List TaskTimes) (test : Task → Bool) where
  at-places : (front tasks all : List Task) (b : ℕ) → b ≡ length front → all ≡ front ++ tasks → flat_map (left_at times all) (places_by test b tasks) ≡ map (left_as times) (filter test tasks)
  at-places front [] all b is e = refl
  at-places front (t ∷ tasks) all b is e =
      by (test t) (at-places (front ++ t ∷ []) tasks all (suc b) (omega (arith, is, long front)) (e ∙ sym (append_assoc front (t ∷ []) tasks)))
    where
      long : (xs : List Task) → length (xs ++ t ∷ []) ≡ suc (length xs)
      long [] = refl
      long (x ∷ xs) = ap suc (long xs)

      there : (xs : List Task) → slice_get (xs ++ t ∷ tasks) (length xs) ≡ Some t
      there [] = refl
      there (x ∷ xs) = there xs

      here : left_at times all b ≡ left_as times t ∷ []
      here = ap (λ o. option_to_list (option_map (left_as times) o)) (ap₂ slice_get e is ∙ there front)

      by : (c : Bool) → flat_map (left_at times all) (places_by test (suc b) tasks) ≡ map (left_as times) (filter test tasks)
          → flat_map (left_at times all) (cond c (b ∷ places_by test (suc b) tasks) (places_by test (suc b) tasks)) ≡ map (left_as times) (cond c (t ∷ filter test tasks) (filter test tasks))
      by true rest = ap₂ (λ x y. x ++ y) here rest
      by false rest = rest

  pub left-all : (tasks : List Task) → flat_map (left_at times tasks) (places_by test 0 tasks) ≡ map (left_as times) (filter test tasks)
  left-all tasks = at-places [] tasks tasks 0 refl refl

-- the places of the tasks of some ids are those of the tasks with these
pub among-gone : (tasks : List Task) → IsDistinct nat_eq (map task_id tasks) → (ids gone : List ℕ) → ((id : ℕ) → is_among ids id ≡ is_among gone id) → (p : ℕ)
    → is_among (places_with tasks ids) p ≡ stands (is_one_of gone) tasks p
among-gone tasks distinct ids gone same p = by (slice_get tasks p) refl
  where
    by : (o : Option Task) → slice_get tasks p ≡ o → is_among (places_with tasks ids) p ≡ option_map_or (is_one_of gone) o false
    by None e = none-there task_id tasks distinct p e ids
    by (Some x) e = among-places task_id tasks distinct p x e ids ∙ same x.info.id
