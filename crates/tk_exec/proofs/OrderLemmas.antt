-- Tasks that are kept under their ids, in order of spawn.
use Rattle.std.proofs.Common.{◌≡◌, ◌≢◌, ℕ, zero, suc, ◌+◌, ◌<◌, ◌≤◌, ◌⊎◌, Bool, true, false, not, cond, nat_eq, get_or, map, List, [], ◌∷◌, ◌++◌, length, Option, Some, None, refl, ap, ap₂, sym, ◌∙◌, subst, inl, inr, arith, true≢false}
use Rattle.std.specs.Prelude.{is_some, slice_set, slice_index_or, IfSome, IfNone, position, ◌==◌}
use Rattle.std.specs.List.{slice_get, remove, IsDistinct, AllByRecursion}
use Rattle.std.specs.Map.{lookup, keys_of, values_of}
use Rattle.std.proofs.lemmas.Bool.{eqb-true}
use Rattle.std.proofs.lemmas.Bool.Decides.{eqb_tells}
use Rattle.std.proofs.lemmas.Option.{get_or_from_slice_get, slice_get_within, slice_get-get_or}
use Rattle.std.proofs.lemmas.List.Edits.{length-remove, get_or-remove_below, get_or-remove_above}
use Rattle.std.proofs.lemmas.Map.Keys.{IsDistinct-head, IsDistinct-tail}
use Rattle.std.proofs.lemmas.List.Quantifiers.{position-Some}
use Rattle.std.proofs.lemmas.List.{length-map, length-append, map-append}
use Rattle.indexmap.specs.IndexMap.{IndexMap, insert_entry}
use Rattle.indexmap.proofs.CallerLemmas.{insert_entry-new}
use Rattle.futures.specs.declared.task.Poll.{Poll}
use Rattle.futures.specs.declared.task.Poll.TheVariants.{Ready, Pending}
use Rattle.tk_ledgers.specs.Tasks.{TaskSight}
use Rattle.tk_ledgers.specs.Scopes.{Scoped}
use Rattle.tk_exec.specs.Polls.{Tracked}
use Rattle.tk_exec.specs.Places.{value_at, values_at, AreKept, ids_of, IsOnlyAt, AreOrdered}
use Rattle.tk_exec.specs.Seats.{Seat, Tasks, LookedAt, PolledAt, unfinished, is_ready, output_or}
use Rattle.tk_exec.specs.Turns.{HoldsId, NoneFinished, Takes}
use Rattle.tk_exec.proofs.PlaceLemmas.{as_many, key_stands, write_kept, write_changes, push_kept, push_values, taken_kept, taken_values}
use Rattle.tk_exec.proofs.TurnLemmas.{some_same}
use Rattle.tk_exec.proofs.DriveLemmas.{counted}

pub long_values : (es : List (ℕ × ℕ)) → length (values_of es) ≡ length es
long_values es = length-map es (λ e. e.1)

-- the key that an index gave
pub key_at : (es : List (ℕ × ℕ)) (place k : ℕ) → slice_get (values_of es) place ≡ Some k → k ≡ slice_index_or (values_of es) place 0
key_at es place k is = sym (get_or_from_slice_get (values_of es) place k 0 is)

map-remove : {X Y : Type 0} (f : X → Y) (xs : List X) (place : ℕ) → map f (remove xs place) ≡ remove (map f xs) place
map-remove f [] zero = refl
map-remove f [] (suc place) = refl
map-remove f (x ∷ xs) zero = refl
map-remove f (x ∷ xs) (suc place) = ap (λ l. f x ∷ l) (map-remove f xs place)

same_lists : {X : Type 0} (xs ys : List X) → ((i : ℕ) → slice_get xs i ≡ slice_get ys i) → xs ≡ ys
same_lists [] [] same = refl
same_lists [] (y ∷ ys) same = let s = same zero in absurd cc
same_lists (x ∷ xs) [] same = let s = same zero in absurd cc
same_lists (x ∷ xs) (y ∷ ys) same = ap₂ (λ z zs. z ∷ zs) (some_same x y (same zero)) (same_lists xs ys (λ i. same (suc i)))

module _ {W A : Type 0} where
  -- 1 for a task that isn't finished
  abbrev pub one : Seat W A → ℕ
  one seat = cond (not (is_some seat.out)) 1 0

  module _ (before after : Seat W A) where
    abbrev Others : ℕ → List (Seat W A) → List (Seat W A) → Type 0
    Others place old new = (i : ℕ) → i ≢ place → slice_get new i ≡ slice_get old i

    rest_same : (x y : Seat W A) (old new : List (Seat W A)) → Others zero (x ∷ old) (y ∷ new) → new ≡ old
    rest_same x y old new others = same_lists new old (λ i. others (suc i) (λ is. absurd (omega (arith, is))))

    same_ids : (place : ℕ) (old new : List (Seat W A)) → slice_get old place ≡ Some before → slice_get new place ≡ Some after → Others place old new → after.task.id ≡ before.task.id → ids_of new ≡ ids_of old
    same_ids place [] new stood stands others same = absurd cc
    same_ids place (x ∷ old) [] stood stands others same = absurd cc
    same_ids zero (x ∷ old) (y ∷ new) stood stands others same =
        ap₂ (λ n ns. n ∷ ns) (ap (λ (s : Seat W A). s.task.id) (some_same y after stands) ∙ (same ∙ ap (λ (s : Seat W A). s.task.id) (sym (some_same x before stood)))) (ap (λ l. ids_of l) (rest_same x y old new others))
    same_ids (suc place) (x ∷ old) (y ∷ new) stood stands others same =
        ap₂ (λ n ns. n ∷ ns) (ap (λ (s : Seat W A). s.task.id) (some_same y x (others zero (λ is. absurd (omega (arith, is))))))
        (same_ids place old new stood stands (λ i isnt. others (suc i) (λ is. isnt (omega (arith, is)))) same)

    counts_on : (place : ℕ) (old new : List (Seat W A)) → slice_get old place ≡ Some before → slice_get new place ≡ Some after → Others place old new → one before + unfinished new ≡ one after + unfinished old
    counts_on place [] new stood stands others = absurd cc
    counts_on place (x ∷ old) [] stood stands others = absurd cc
    counts_on zero (x ∷ old) (y ∷ new) stood stands others =
        let old_is : unfinished (x ∷ old) ≡ one before + unfinished old = counted x old ∙ ap (λ (s : Seat W A). one s + unfinished old) (some_same x before stood) in
        let new_is : unfinished (y ∷ new) ≡ one after + unfinished old = counted y new ∙ (ap (λ (s : Seat W A). one s + unfinished new) (some_same y after stands) ∙ ap (λ (l : List (Seat W A)). one after + unfinished l) (rest_same x y old new others)) in
        sums (one before) (one after) (unfinished old) (unfinished (x ∷ old)) (unfinished (y ∷ new)) old_is new_is
      where
        sums : (b a u v w : ℕ) → v ≡ b + u → w ≡ a + u → b + w ≡ a + v
        sums b a u v w p q = omega (arith, p, q)
    counts_on (suc place) (x ∷ old) (y ∷ new) stood stands others =
        let rest = counts_on place old new stood stands (λ i isnt. others (suc i) (λ is. isnt (omega (arith, is)))) in
        let first : unfinished (y ∷ new) ≡ one x + unfinished new = counted y new ∙ ap (λ (s : Seat W A). one s + unfinished new) (some_same y x (others zero (λ is. absurd (omega (arith, is))))) in
        sums (one before) (one after) (one x) (unfinished old) (unfinished new) (unfinished (x ∷ old)) (unfinished (y ∷ new)) (counted x old) first rest
      where
        sums : (b a x u w v z : ℕ) → v ≡ x + u → z ≡ x + w → b + w ≡ a + u → b + z ≡ a + v
        sums b a x u w v z p q r = omega (arith, p, q, r)

  -- a task that isn't finished is counted
  pub some_unfinished : (seats : List (Seat W A)) (place : ℕ) (s : Seat W A) → slice_get seats place ≡ Some s → s.out ≡ None → 1 ≤ unfinished seats
  some_unfinished [] place s stands none = absurd cc
  some_unfinished (x ∷ seats) zero s stands none =
      let first : one x ≡ 1 = ap (λ (t : Seat W A). one t) (some_same x s stands) ∙ ap (λ (o : Option A). cond (not (is_some o)) 1 0) none in
      omega (arith, counted x seats, first)
  some_unfinished (x ∷ seats) (suc place) s stands none =
      let rest = some_unfinished seats place s stands none in
      omega (arith, counted x seats, rest)

  -- one more that isn't finished
  one_more_counted : (seats : List (Seat W A)) (s : Seat W A) → s.out ≡ None → unfinished (seats ++ s ∷ []) ≡ unfinished seats + 1
  one_more_counted [] s none =
      let first : one s ≡ 1 = ap (λ (o : Option A). cond (not (is_some o)) 1 0) none in
      omega (arith, counted s [], first)
  one_more_counted (x ∷ seats) s none =
      let rest = one_more_counted seats s none in
      omega (arith, counted x seats, counted x (seats ++ s ∷ []), rest)

  -- a finished one less
  finished_less : (seats : List (Seat W A)) (place : ℕ) (s : Seat W A) → slice_get seats place ≡ Some s → is_some s.out ≡ true → unfinished (remove seats place) ≡ unfinished seats
  finished_less [] place s stands done = absurd cc
  finished_less (x ∷ seats) zero s stands done =
      let first : one x ≡ 0 = ap (λ (t : Seat W A). one t) (some_same x s stands) ∙ ap (λ (b : Bool). cond (not b) 1 0) done in
      omega (arith, counted x seats, first)
  finished_less (x ∷ seats) (suc place) s stands done =
      let rest = finished_less seats place s stands done in
      omega (arith, counted x seats, counted x (remove seats place), rest)

  module _ (slots : List (Option (Seat W A))) (es : List (ℕ × ℕ)) (next count : ℕ) (are : AreOrdered slots es next count) where
    -- there are as many tasks as entries
    pub whole : (n : ℕ) (t : Tasks W A) → record { seats = values_at slots (values_of es); next = n } ≡ t → length t.seats ≡ length es
    whole n t view = ap (λ (u : Tasks W A). length u.seats) (sym view) ∙ (as_many slots (values_of es) are.kept.kept ∙ long_values es)

    pub counts : (n : ℕ) (t : Tasks W A) → record { seats = values_at slots (values_of es); next = n } ≡ t → count ≡ unfinished t.seats
    counts n t view = are.counted ∙ ap (λ (u : Tasks W A). unfinished u.seats) view

    module _ (place : ℕ) (less : place < length (values_of es)) (k : ℕ) (is : k ≡ slice_index_or (values_of es) place 0) (old : Seat W A) (was : value_at slots k ≡ Some old) where
      -- the task at a place is another state of the same task
      pub ordered_write : (v : Seat W A) (next' count' : ℕ) → v.task.id ≡ old.task.id → next' ≤ length es → one old + count' ≡ one v + count → AreOrdered (slice_set slots k (Some v)) es next' count'
      ordered_write v next' count' same within sum =
          let c = write_changes slots (values_of es) are.kept place less k is old v (λ a b. (a ≡ old) × (b ≡ v)) was (refl, refl) in
          let ids = same_ids c.0.before c.0.after place (values_at slots (values_of es)) (values_at (slice_set slots k (Some v)) (values_of es)) c.0.stood c.0.stands c.0.others
          (ap (λ (s : Seat W A). s.task.id) c.1.1 ∙ (same ∙ ap (λ (s : Seat W A). s.task.id) (sym c.1.0))) in
          let on = counts_on c.0.before c.0.after place (values_at slots (values_of es)) (values_at (slice_set slots k (Some v)) (values_of es)) c.0.stood c.0.stands c.0.others in
          let ones : one old + unfinished (values_at (slice_set slots k (Some v)) (values_of es)) ≡ one v + unfinished (values_at slots (values_of es)) =
          ap (λ (s : Seat W A). one s + unfinished (values_at (slice_set slots k (Some v)) (values_of es))) (sym c.1.0) ∙ (on ∙ ap (λ (s : Seat W A). one s + unfinished (values_at slots (values_of es))) c.1.1) in
          record {
            kept = write_kept slots (values_of es) are.kept place less k is v;
            named = are.named ∙ sym ids;
            within = within;
            counted = sums (one old) (one v) count count' (unfinished (values_at slots (values_of es))) (unfinished (values_at (slice_set slots k (Some v)) (values_of es))) are.counted sum ones;
          }
        where
          sums : (b a n m u w : ℕ) → n ≡ u → b + m ≡ a + n → b + w ≡ a + u → m ≡ w
          sums b a n m u w p q r = omega (arith, p, q, r)

      old_stood : slice_get (values_at slots (values_of es)) place ≡ Some old
      old_stood = key_stands slots (values_of es) are.kept place less k is ∙ was

      pub looked_ordered : (v : Seat W A) (scheduled : Bool) → LookedAt old scheduled v → AreOrdered (slice_set slots k (Some v)) es next count
      looked_ordered v scheduled looked = ordered_write v next count looked.0.id are.within (ap (λ (o : Option A). cond (not (is_some o)) 1 0 + count) (sym looked.1))

      -- the task at a place heard something or nothing
      pub heard_ordered : (v : Seat W A) → v.task.id ≡ old.task.id → v.out ≡ old.out → AreOrdered (slice_set slots k (Some v)) es next count
      heard_ordered v id out = ordered_write v next count id are.within (ap (λ (o : Option A). cond (not (is_some o)) 1 0 + count) (sym out))

      module _ {C : Type 0} (reads : C → ℕ → C → Type 0) (polls : W → Scoped → Poll A → W → Scoped → Type 0) (gives : W → A → Type 0) (ready : Bool) (v : Seat W A) (clock clock' : C) (p : PolledAt reads polls gives old ready v clock clock') where
        pub polled_counted : 1 ≤ count
        polled_counted = let some = some_unfinished (values_at slots (values_of es)) place old old_stood p.unfinished in omega (arith, some, are.counted)

        pub polled_ordered : (count' : ℕ) → count' + cond ready 1 0 ≡ count → AreOrdered (slice_set slots k (Some v)) es (place + 1) count'
        polled_ordered count' is' = ordered_write v (place + 1) count' p.polled.id (let long = long_values es in omega (arith, less, long)) (sum p.answer p.is p.out)
          where
            sum : (answer : Poll A) → ready ≡ is_ready answer → v.out ≡ output_or answer old.out → one old + count' ≡ one v + count
            sum (Ready x) is out =
                let before : one old ≡ 1 = ap (λ (o : Option A). cond (not (is_some o)) 1 0) p.unfinished in
                let after : one v ≡ 0 = ap (λ (o : Option A). cond (not (is_some o)) 1 0) out in
                let less' : count' + 1 ≡ count = ap (λ (b : Bool). count' + cond b 1 0) (sym is) ∙ is' in
                omega (arith, before, after, less')
            sum Pending is out =
                let same : one v ≡ one old = ap (λ (o : Option A). cond (not (is_some o)) 1 0) out in
                let as' : count' + 0 ≡ count = ap (λ (b : Bool). count' + cond b 1 0) (sym is) ∙ is' in
                omega (arith, same, as')

      -- a finished task is gone
      pub taken_ordered : (slots' : List (Option (Seat W A))) (next' : ℕ) → is_some old.out ≡ true → ((other : ℕ) → other ≢ k → value_at slots' other ≡ value_at slots other)
          → ((place < next) × (next' + 1 ≡ next)) ⊎ ((next ≤ place) × (next' ≡ next)) → AreOrdered slots' (remove es place) next' count
      taken_ordered slots' next' done others moved = record {
        kept = subst (λ (l : List ℕ). AreKept slots' l) (sym keys)
            (taken_kept slots slots' (values_of es) are.kept place less k is others (remove (values_of es) place)
            (λ i d low. get_or-remove_below (values_of es) place d i low less) (λ i d high. get_or-remove_above (values_of es) place d i high less) (length-remove (values_of es) place less));
        named = map-remove (λ e. e.0) es place ∙ (ap (λ (l : List ℕ). remove l place) are.named ∙ (sym (map-remove (λ (s : Seat W A). s.task.id) (values_at slots (values_of es)) place) ∙ ap (λ (l : List (Seat W A)). ids_of l) (sym left)));
        within = within moved;
        counted = are.counted ∙ (sym (finished_less (values_at slots (values_of es)) place old old_stood done) ∙ ap (λ (l : List (Seat W A)). unfinished l) (sym left));
      }
        where
          keys : values_of (remove es place) ≡ remove (values_of es) place
          keys = map-remove (λ e. e.1) es place

          left : values_at slots' (values_of (remove es place)) ≡ remove (values_at slots (values_of es)) place
          left = ap (λ (l : List ℕ). values_at slots' l) keys ∙ taken_values slots slots' (values_of es) are.kept place less k is others

          within : ((place < next) × (next' + 1 ≡ next)) ⊎ ((next ≤ place) × (next' ≡ next)) → next' ≤ length (remove es place)
          within (inl p) = let l = length-remove es place (let long = long_values es in omega (arith, less, long)) in let all = are.within in omega (arith, p.0, p.1, l, all)
          within (inr p) = let l = length-remove es place (let long = long_values es in omega (arith, less, long)) in let all = are.within in let long = long_values es in omega (arith, p.0, p.1, l, all, less, long)

      pub taken_left : (slots' : List (Option (Seat W A))) → ((other : ℕ) → other ≢ k → value_at slots' other ≡ value_at slots other) → values_at slots' (values_of (remove es place)) ≡ remove (values_at slots (values_of es)) place
      taken_left slots' others = ap (λ (l : List ℕ). values_at slots' l) (map-remove (λ e. e.1) es place) ∙ taken_values slots slots' (values_of es) are.kept place less k is others

    -- one task more, which isn't finished
    module _ (slots' : List (Option (Seat W A))) (k : ℕ) (s : Seat W A) (vacant : value_at slots k ≡ None) (changed : value_at slots' k ≡ Some s) (others : (other : ℕ) → other ≢ k → value_at slots' other ≡ value_at slots other) where
      pub pushed_values : values_at slots' (values_of (es ++ (s.task.id, k) ∷ [])) ≡ values_at slots (values_of es) ++ s ∷ []
      pushed_values = ap (λ (l : List ℕ). values_at slots' l) (map-append (λ e. e.1) es ((s.task.id, k) ∷ [])) ∙ push_values slots slots' (values_of es) are.kept k s vacant changed others

      pub pushed_ordered : s.out ≡ None → AreOrdered slots' (es ++ (s.task.id, k) ∷ []) next (count + 1)
      pushed_ordered none = record {
        kept = subst (λ (l : List ℕ). AreKept slots' l) (sym (map-append (λ e. e.1) es ((s.task.id, k) ∷ []))) (push_kept slots slots' (values_of es) are.kept k s vacant changed others);
        named = map-append (λ e. e.0) es ((s.task.id, k) ∷ []) ∙ (ap (λ (l : List ℕ). l ++ s.task.id ∷ []) are.named ∙ (sym (map-append (λ (t : Seat W A). t.task.id) (values_at slots (values_of es)) (s ∷ [])) ∙ ap (λ (l : List (Seat W A)). ids_of l) (sym pushed_values)));
        within = let long = long_one in let all = are.within in omega (arith, long, all);
        counted = ap (λ (n : ℕ). n + 1) are.counted ∙ (sym (one_more_counted (values_at slots (values_of es)) s none) ∙ ap (λ (l : List (Seat W A)). unfinished l) (sym pushed_values));
      }
        where
          long_one : length (es ++ (s.task.id, k) ∷ []) ≡ length es + 1
          long_one = length-append es ((s.task.id, k) ∷ [])

-- ---- a search by id

eq_is : (n : ℕ) → nat_eq n n ≡ true
eq_is n = go (eqb_tells n n)
  where
    go : (((n == n) ≡ true) × (n ≡ n)) ⊎ (((n == n) ≡ false) × (n ≢ n)) → (n == n) ≡ true
    go (inl p) = p.0
    go (inr p) = absurd (p.1 refl)

all_at : (P : ℕ → Type 0) (ns : List ℕ) (i n : ℕ) → AllByRecursion P ns → slice_get ns i ≡ Some n → P n
all_at P [] i n all at = absurd cc
all_at P (x ∷ ns) zero n all at = subst P (some_same x n at) all.0
all_at P (x ∷ ns) (suc i) n all at = all_at P ns i n all.1 at

one_place : (ns : List ℕ) → IsDistinct nat_eq ns → (i j n : ℕ) → slice_get ns i ≡ Some n → slice_get ns j ≡ Some n → i ≡ j
one_place [] distinct i j n here there = absurd cc
one_place (x ∷ ns) distinct zero zero n here there = refl
one_place (x ∷ ns) distinct zero (suc j) n here there =
    absurd (true≢false (sym (eq_is n) ∙ subst (λ (m : ℕ). nat_eq m n ≡ false) (some_same x n here) (all_at (λ y. nat_eq x y ≡ false) ns j n (IsDistinct-head nat_eq x ns distinct) there)))
one_place (x ∷ ns) distinct (suc i) zero n here there =
    absurd (true≢false (sym (eq_is n) ∙ subst (λ (m : ℕ). nat_eq m n ≡ false) (some_same x n there) (all_at (λ y. nat_eq x y ≡ false) ns i n (IsDistinct-head nat_eq x ns distinct) here)))
one_place (x ∷ ns) distinct (suc i) (suc j) n here there = ap suc (one_place ns (IsDistinct-tail nat_eq x ns distinct) i j n here there)

lookup_none : {X : Type 0} (id : ℕ) (es : List (ℕ × X)) (i : ℕ) → is_some (lookup (nat_eq id) es) ≡ false → slice_get (keys_of es) i ≡ Some id → ⊥
lookup_none id [] i none at = absurd cc
lookup_none {X} id (e ∷ es) i none at = go (nat_eq id e.0) refl none (λ j left there. lookup_none id es j left there) i at
  where
    go : (b : Bool) → nat_eq id e.0 ≡ b → is_some (cond b (Some e.1) (lookup (nat_eq id) es)) ≡ false
        → ((j : ℕ) → is_some (lookup (nat_eq id) es) ≡ false → slice_get (keys_of es) j ≡ Some id → ⊥) → (i : ℕ) → slice_get (keys_of (e ∷ es)) i ≡ Some id → ⊥
    go true same none rest i at = true≢false none
    go false other none rest zero at = true≢false (sym (eq_is id) ∙ (ap (nat_eq id) (sym (some_same e.0 id at)) ∙ other))
    go false other none rest (suc i) at = rest i none at

module _ {W A : Type 0} where
  id_at : (seats : List (Seat W A)) (i : ℕ) (s : Seat W A) → slice_get seats i ≡ Some s → slice_get (ids_of seats) i ≡ Some s.task.id
  id_at [] i s at = absurd cc
  id_at (x ∷ seats) zero s at = ap (λ (t : Seat W A). Some t.task.id) (some_same x s at)
  id_at (x ∷ seats) (suc i) s at = id_at seats i s at

  seat_at : (seats : List (Seat W A)) (i n : ℕ) → slice_get (ids_of seats) i ≡ Some n → (s : Seat W A) × (slice_get seats i ≡ Some s) × (s.task.id ≡ n)
  seat_at [] i n at = absurd cc
  seat_at (x ∷ seats) zero n at = (x, refl, some_same x.task.id n at)
  seat_at (x ∷ seats) (suc i) n at = seat_at seats i n at

  module _ (es : List (ℕ × ℕ)) (seats : List (Seat W A)) (named : keys_of es ≡ ids_of seats) (id : ℕ) where
    pub found_only : (o : Option ℕ) → o ≡ position (nat_eq id) (keys_of es) → IsDistinct nat_eq (keys_of es) → IfSome o (λ place. IsOnlyAt seats id place)
    found_only None is distinct = tt
    found_only (Some place) is distinct =
        let p = position-Some (nat_eq id) (ids_of seats) place 0 (sym (is ∙ ap (position (nat_eq id)) named)) in
        let n : id ≡ get_or (ids_of seats) place 0 = eqb-true id (get_or (ids_of seats) place 0) p.1 in
        let at : slice_get (ids_of seats) place ≡ Some id = slice_get-get_or (ids_of seats) place 0 p.0 ∙ ap (λ (m : ℕ). Some m) (sym n) in
        let s = seat_at seats place id at in
        record {
          seat = s.0;
          stands = s.1;
          named = s.2;
          only = λ i other there is'. one_place (ids_of seats) (subst (IsDistinct nat_eq) named distinct) i place id (id_at seats i other there ∙ ap (λ (m : ℕ). Some m) is') at;
        }

    pub not_held : (o : Option ℕ) → is_some o ≡ is_some (lookup (nat_eq id) es) → IfNone o (HoldsId seats id → ⊥)
    not_held None is = λ h. lookup_none id es h.0 (sym is) (ap (λ l. slice_get l h.0) named ∙ (id_at seats h.0 h.1 h.2 ∙ ap (λ (m : ℕ). Some m) h.3))
    not_held (Some place) is = tt

  module _ (seats : List (Seat W A)) (id : ℕ) where
    pub only_holds : (o : Option ℕ) → is_some o ≡ true → IfSome o (λ place. IsOnlyAt seats id place) → HoldsId seats id
    only_holds None is found = absurd (true≢false (sym is))
    only_holds (Some place) is found = (place, found.seat, found.stands, found.named)

    pub none_holds : (o : Option ℕ) → is_some o ≡ false → IfNone o (HoldsId seats id → ⊥) → HoldsId seats id → ⊥
    none_holds None is none = none
    none_holds (Some place) is none = absurd (true≢false is)

    -- the one task of this id isn't finished
    pub none_finished : (place : ℕ) (at : IsOnlyAt seats id place) → is_some at.seat.out ≡ false → NoneFinished seats id
    none_finished place at unfinished i other there named =
        let same : other ≡ at.seat = some_same other at.seat (sym there ∙ (ap (λ (n : ℕ). slice_get seats n) (at.only i other there named) ∙ at.stands)) in
        ap (λ (s : Seat W A). is_some s.out) same ∙ unfinished

    pub none_held : (HoldsId seats id → ⊥) → NoneFinished seats id
    none_held none i other there named = absurd (none (i, other, there, named))

    -- the task that stands there isn't finished
    pub stays_unfinished : (place : ℕ) (at : IsOnlyAt seats id place) (x : Seat W A) → slice_get seats place ≡ Some x → is_some x.out ≡ false → NoneFinished seats id
    stays_unfinished place at x here unfinished = none_finished place at (ap (λ (s : Seat W A). is_some s.out) (some_same at.seat x (sym at.stands ∙ here)) ∙ unfinished)

    pub finished_named : (place : ℕ) (at : IsOnlyAt seats id place) (x : Seat W A) → slice_get seats place ≡ Some x → x.task.id ≡ id
    finished_named place at x here = ap (λ (s : Seat W A). s.task.id) (some_same x at.seat (sym here ∙ at.stands)) ∙ at.named

  -- no key for an id that isn't held
  pub key_absent : (es : List (ℕ × ℕ)) (seats : List (Seat W A)) (id : ℕ) → keys_of es ≡ ids_of seats → (HoldsId seats id → ⊥) → lookup (nat_eq id) es ≡ None
  key_absent [] seats id named none = refl
  key_absent (e ∷ es) [] id named none = absurd cc
  key_absent (e ∷ es) (x ∷ seats) id named none =
      let first : e.0 ≡ x.task.id = cc in
      let rest : keys_of es ≡ ids_of seats = cc in
      go (nat_eq id e.0) refl first (key_absent es seats id rest (λ h. none (suc h.0, h.1, h.2, h.3)))
    where
      go : (b : Bool) → nat_eq id e.0 ≡ b → e.0 ≡ x.task.id → lookup (nat_eq id) es ≡ None → cond b (Some e.1) (lookup (nat_eq id) es) ≡ None
      go true same first rest = absurd (none (zero, x, refl, sym (eqb-true id e.0 same ∙ first)))
      go false other first rest = rest

  -- the entries with one more
  pub pushed_entries : {S : Type 0} (m : IndexMap ℕ ℕ S) (es new : List (ℕ × ℕ)) (seats : List (Seat W A)) (n id key : ℕ) → m.entries ≡ es → keys_of es ≡ ids_of seats → (HoldsId seats id → ⊥) → n ≡ id → new ≡ insert_entry nat_eq m.entries n key
      → new ≡ es ++ (id, key) ∷ []
  pushed_entries m es new seats n id key same named none is put =
      let missing : lookup (nat_eq n) m.entries ≡ None = ap (λ (l : List (ℕ × ℕ)). lookup (nat_eq n) l) same ∙ (ap (λ (k : ℕ). lookup (nat_eq k) es) is ∙ key_absent es seats id named none) in
      put ∙ (insert_entry-new nat_eq m n key missing ∙ (ap (λ (l : List (ℕ × ℕ)). l ++ (n, key) ∷ []) same ∙ ap (λ (k : ℕ). es ++ (k, key) ∷ []) is))

  pub few_unfinished : (seats : List (Seat W A)) → unfinished seats ≤ length seats
  few_unfinished [] = omega arith
  few_unfinished (x ∷ seats) = let rest = few_unfinished seats in let u = counted x seats in let most = at_most (not (is_some x.out)) in omega (arith, rest, u, most)
    where
      at_most : (b : Bool) → cond b 1 0 ≤ 1
      at_most true = omega arith
      at_most false = omega arith

  module _ (slots : List (Option (Seat W A))) (es : List (ℕ × ℕ)) (next count : ℕ) (are : AreOrdered slots es next count) where
    -- no more are counted than are held
    pub few : count ≤ length es
    few = let all = few_unfinished (values_at slots (values_of es)) in omega (arith, all, are.counted, as_many slots (values_of es) are.kept.kept, long_values es)

    pub only_within : (n : ℕ) (t : Tasks W A) (id place : ℕ) → record { seats = values_at slots (values_of es); next = n } ≡ t → IsOnlyAt t.seats id place → place < length (values_of es)
    only_within n t id place view at =
        let less = slice_get_within t.seats place at.seat at.stands in
        let all = whole slots es next count are n t view in
        omega (arith, less, all, long_values es)

  pub none_ordered : (slots : List (Option (Seat W A))) → AreOrdered slots [] 0 0
  none_ordered slots = record {
    kept = record { kept = λ i less. absurd (omega arith); apart = λ i j less less' same. absurd (omega arith) };
    named = refl;
    within = omega arith;
    counted = refl;
  }

pub if_none : {X : Type 0} (o : Option X) (P : Type 0) → P → IfNone o P
if_none None P p = p
if_none (Some x) P p = tt

-- the output and the receipt of a task that was found
pub takes : {W A : Type 0} (old new : Tasks W A) (id place : ℕ) (seat : Seat W A) (result : Option (A × TaskSight)) → IfSome result (λ answer. seat.out ≡ Some answer.0) → IfSome result (λ answer. seat.task.receipt ≡ Some answer.1)
    → slice_get old.seats place ≡ Some seat → seat.task.id ≡ id → new.seats ≡ remove old.seats place → ((place < old.next) × (new.next + 1 ≡ old.next)) ⊎ ((old.next ≤ place) × (new.next ≡ old.next))
    → IfSome result (λ answer. Takes old new id answer.0 answer.1)
takes old new id place seat None out closed stood named left next = tt
takes old new id place seat (Some answer) out closed stood named left next = record { place = place; seat = seat; stood = stood; named = named; output = out; closed = closed; left = left; next = next }

pub never_none : {X : Type 0} (o : Option X) (P : Type 0) → is_some o ≡ true → IfNone o P
never_none None P is = absurd (true≢false (sym is))
never_none (Some x) P is = tt

pub seat_is : {W A : Type 0} (x : Seat W A) (t : Tracked W) → x.task ≡ t → x.out ≡ None → x ≡ record { task = t; out = None }
seat_is {W} {A} x t task out = ap (λ (u : Tracked W). record { task = u; out = x.out }) task ∙ ap (λ (o : Option A). record { task = t; out = o }) out
