-- Items in slots: where each stands, and what is empty.
use Rattle.std.proofs.Common.{◌≡◌, ℕ, zero, suc, ◌+◌, ◌-◌, ◌≤◌, ◌<◌, List, [], ◌∷◌, ◌++◌, length, take, get_or, slice_get, Bool, true, false, nat_lt, map, filter, Option, Some, None, refl, ap, ap₂, sym, subst, ◌∙◌, arith, add-one}
use Rattle.std.specs.Prelude.{Result, Ok, Err, OnOk, OnErr, IsSome, insert, slice_set, option_map, is_some}
use Rattle.std.specs.List.{AllZip}
use Rattle.tk_stream.specs.Slots.{items_in, item_at, empty_from, AreRising, Stands}
use Rattle.tk_stream.specs.Tables.{changed_at}

-- ---- the list of the empty slots

module _ {Item : Type 0} where
  -- the first is no lower than the number of the first slot, and each is above the one before it
  low : (k : ℕ) (xs : List (Option Item)) (j : ℕ) → j < length (empty_from k xs) → k + j ≤ get_or (empty_from k xs) j 0
  low k [] j lt = absurd (omega arith)
  low k (None ∷ xs) zero lt = omega arith
  low k (None ∷ xs) (suc j) lt = let l : suc k + j ≤ get_or (empty_from (suc k) xs) j 0 = low (suc k) xs j (omega arith) in omega arith
  low k (Some x ∷ xs) j lt = let l : suc k + j ≤ get_or (empty_from (suc k) xs) j 0 = low (suc k) xs j lt in omega arith

  pub rising : (k : ℕ) (xs : List (Option Item)) → AreRising (empty_from k xs)
  rising k [] i j le lt = absurd (omega arith)
  rising k (None ∷ xs) zero zero le lt = omega arith
  rising k (None ∷ xs) zero (suc j) le lt = let l : suc k + j ≤ get_or (empty_from (suc k) xs) j 0 = low (suc k) xs j (omega arith) in omega arith
  rising k (None ∷ xs) (suc i) zero le lt = absurd (omega arith)
  rising k (None ∷ xs) (suc i) (suc j) le lt =
      let l : get_or (empty_from (suc k) xs) i 0 + j ≤ get_or (empty_from (suc k) xs) j 0 + i = rising (suc k) xs i j (omega arith) (omega arith) in omega arith
  rising k (Some x ∷ xs) i j le lt = rising (suc k) xs i j le lt

  -- the slots that hold an item, and those that are empty, are all
  pub counted : (k : ℕ) (xs : List (Option Item)) → length (items_in xs) + length (empty_from k xs) ≡ length xs
  counted k [] = omega arith
  counted k (None ∷ xs) = let e = counted (suc k) xs in omega (arith, e)
  counted k (Some x ∷ xs) = let e = counted (suc k) xs in omega (arith, e)

skip : (k : ℕ) (es : List ℕ) (t n : ℕ) → Stands (k ∷ es) t (suc n) → Stands es t n
skip k es t n stands = record {
  within = let l : suc n ≤ suc (length es) = stands.within in omega arith;
  before = λ j lt. stands.before (suc j) (omega arith);
  after = λ j le lt. stands.after (suc j) (omega arith) (omega arith);
}

-- ---- from a place to its slot: so many empty ones stand before it

module _ {Item : Type 0} where
  module _ (k : ℕ) (xs : List (Option Item)) (n t : ℕ) where
    -- the first slot is empty, so one at least stands before any other
    none-first : (s : ℕ) → t ≡ k + s → Stands (k ∷ empty_from (suc k) xs) t zero → ⊥
    none-first s at stands = let l : t < k = stands.after 0 (omega arith) (omega arith) in omega arith

    -- no more stand before a slot than there are slots before it
    few-first : (s : ℕ) → t ≡ k + suc s → n ≡ suc s → Stands (empty_from (suc k) xs) t n → ⊥
    few-first s at is stands =
        let w : n ≤ length (empty_from (suc k) xs) = stands.within in
        let b : get_or (empty_from (suc k) xs) s 0 < t = stands.before s (omega arith) in
        let l : suc k + s ≤ get_or (empty_from (suc k) xs) s 0 = low (suc k) xs s (omega arith) in omega arith

    -- none stands before the first
    first-none : (es : List ℕ) → t ≡ k + 0 → ((j : ℕ) → j < length es → k + j ≤ get_or es j 0) → Stands es t n → n ≡ 0
    first-none es at above stands = by (nat_lt 0 n) refl
      where
        by : (b : Bool) → nat_lt 0 n ≡ b → n ≡ 0
        by true is =
            let some : 0 < n = grind arith in
            let w : n ≤ length es = stands.within in
            let b : get_or es 0 0 < t = stands.before 0 some in
            let l : k + 0 ≤ get_or es 0 0 = above 0 (omega arith) in absurd (omega arith)
        by false is = grind arith

  pub at_place : (k : ℕ) (xs : List (Option Item)) (p n s t : ℕ) → s ≡ p + n → t ≡ k + s → Stands (empty_from k xs) t n → item_at xs s ≡ slice_get (items_in xs) p
  at_place k [] p n s t is at stands = refl
  at_place k (None ∷ xs) p zero s t is at stands = absurd (none-first k xs 0 t s at stands)
  at_place k (None ∷ xs) p (suc n) zero t is at stands = absurd (omega arith)
  at_place k (None ∷ xs) p (suc n) (suc s) t is at stands = at_place (suc k) xs p n s t (omega arith) (omega arith) (skip k (empty_from (suc k) xs) t n stands)
  at_place k (Some x ∷ xs) zero n zero t is at stands = refl
  at_place k (Some x ∷ xs) (suc p) n zero t is at stands = absurd (omega arith)
  at_place k (Some x ∷ xs) zero n (suc s) t is at stands = absurd (few-first k xs n t s at (omega arith) stands)
  at_place k (Some x ∷ xs) (suc p) n (suc s) t is at stands = at_place (suc k) xs p n s t (omega arith) (omega arith) stands

  -- a change of an item in its slot is one at its place
  pub changed_in : (f : Item → Item) (k : ℕ) (xs : List (Option Item)) (p n s t : ℕ) → s ≡ p + n → t ≡ k + s → Stands (empty_from k xs) t n
      → items_in (changed_at (option_map f) xs s) ≡ changed_at f (items_in xs) p
  changed_in f k [] p n s t is at stands = refl
  changed_in f k (None ∷ xs) p zero s t is at stands = absurd (none-first k xs 0 t s at stands)
  changed_in f k (None ∷ xs) p (suc n) zero t is at stands = absurd (omega arith)
  changed_in f k (None ∷ xs) p (suc n) (suc s) t is at stands = changed_in f (suc k) xs p n s t (omega arith) (omega arith) (skip k (empty_from (suc k) xs) t n stands)
  changed_in f k (Some x ∷ xs) zero n zero t is at stands = refl
  changed_in f k (Some x ∷ xs) (suc p) n zero t is at stands = absurd (omega arith)
  changed_in f k (Some x ∷ xs) zero n (suc s) t is at stands = absurd (few-first k xs n t s at (omega arith) stands)
  changed_in f k (Some x ∷ xs) (suc p) n (suc s) t is at stands = ap (λ zs. x ∷ zs) (changed_in f (suc k) xs p n s t (omega arith) (omega arith) stands)

  -- the first so many items are those of the slots before the next one
  pub items_taken : (k : ℕ) (xs : List (Option Item)) (p n s t : ℕ) → s ≡ p + n → t ≡ k + s → Stands (empty_from k xs) t n → items_in (take s xs) ≡ take p (items_in xs)
  items_taken k [] zero n zero t is at stands = refl
  items_taken k [] (suc p) n zero t is at stands = refl
  items_taken k [] zero n (suc s) t is at stands = refl
  items_taken k [] (suc p) n (suc s) t is at stands = refl
  items_taken k (None ∷ xs) p zero s t is at stands = absurd (none-first k xs 0 t s at stands)
  items_taken k (None ∷ xs) p (suc n) zero t is at stands = absurd (omega arith)
  items_taken k (None ∷ xs) p (suc n) (suc s) t is at stands = items_taken (suc k) xs p n s t (omega arith) (omega arith) (skip k (empty_from (suc k) xs) t n stands)
  items_taken k (Some x ∷ xs) zero n zero t is at stands = refl
  items_taken k (Some x ∷ xs) (suc p) n zero t is at stands = absurd (omega arith)
  items_taken k (Some x ∷ xs) zero n (suc s) t is at stands = absurd (few-first k xs n t s at (omega arith) stands)
  items_taken k (Some x ∷ xs) (suc p) n (suc s) t is at stands = ap (λ zs. x ∷ zs) (items_taken (suc k) xs p n s t (omega arith) (omega arith) stands)

  pub empty_taken : (k : ℕ) (xs : List (Option Item)) (n s t : ℕ) → t ≡ k + s → Stands (empty_from k xs) t n → take n (empty_from k xs) ≡ empty_from k (take s xs)
  empty_taken k [] zero zero t at stands = refl
  empty_taken k [] zero (suc s) t at stands = refl
  empty_taken k [] (suc n) s t at stands = absurd (let w : suc n ≤ 0 = stands.within in omega arith)
  empty_taken k (None ∷ xs) n zero t at stands = rw (first-none k xs n t (k ∷ empty_from (suc k) xs) at (low k (None ∷ xs)) stands) refl
  empty_taken k (None ∷ xs) zero (suc s) t at stands = absurd (none-first k xs 0 t (suc s) at stands)
  empty_taken k (None ∷ xs) (suc n) (suc s) t at stands = ap (λ zs. k ∷ zs) (empty_taken (suc k) xs n s t (omega arith) (skip k (empty_from (suc k) xs) t n stands))
  empty_taken k (Some x ∷ xs) n zero t at stands = rw (first-none k xs n t (empty_from (suc k) xs) at (low k (Some x ∷ xs)) stands) refl
  empty_taken k (Some x ∷ xs) n (suc s) t at stands = empty_taken (suc k) xs n s t (omega arith) stands

  -- a slot that is emptied is listed between those before it and those after it
  pub empty_more : (k : ℕ) (xs : List (Option Item)) (x : Item) (n s t : ℕ) → item_at xs s ≡ Some x → t ≡ k + s → Stands (empty_from k xs) t n
      → insert (empty_from k xs) n t ≡ empty_from k (slice_set xs s None)
  empty_more k [] x n s t there at stands = absurd (cc)
  empty_more k (None ∷ xs) x n zero t there at stands = absurd (cc)
  empty_more k (None ∷ xs) x zero (suc s) t there at stands = absurd (none-first k xs 0 t (suc s) at stands)
  empty_more k (None ∷ xs) x (suc n) (suc s) t there at stands = ap (λ zs. k ∷ zs) (empty_more (suc k) xs x n s t there (omega arith) (skip k (empty_from (suc k) xs) t n stands))
  empty_more k (Some y ∷ xs) x n zero t there at stands =
      let none : n ≡ 0 = first-none k xs n t (empty_from (suc k) xs) at (low k (Some y ∷ xs)) stands in
      let own : t ≡ k = omega arith in
      rw (none, own) refl
  empty_more k (Some y ∷ xs) x n (suc s) t there at stands = empty_more (suc k) xs x n s t there (omega arith) stands

  -- another item in the slot of one empties nothing, nor does a change of one
  pub empty_set : (y z : Item) (k : ℕ) (xs : List (Option Item)) (s : ℕ) → item_at xs s ≡ Some y → empty_from k (slice_set xs s (Some z)) ≡ empty_from k xs
  empty_set y z k [] s there = refl
  empty_set y z k (o ∷ xs) zero there = rw there refl
  empty_set y z k (None ∷ xs) (suc s) there = ap (λ zs. k ∷ zs) (empty_set y z (suc k) xs s there)
  empty_set y z k (Some x ∷ xs) (suc s) there = empty_set y z (suc k) xs s there

  pub empty_changed : (f : Item → Item) (k : ℕ) (xs : List (Option Item)) (s : ℕ) → empty_from k (changed_at (option_map f) xs s) ≡ empty_from k xs
  empty_changed f k [] s = refl
  empty_changed f k (None ∷ xs) zero = refl
  empty_changed f k (Some x ∷ xs) zero = refl
  empty_changed f k (None ∷ xs) (suc s) = ap (λ zs. k ∷ zs) (empty_changed f (suc k) xs s)
  empty_changed f k (Some x ∷ xs) (suc s) = empty_changed f (suc k) xs s

  -- where a slot holds an item, none of the empty ones is it
  pub not_empty : (k : ℕ) (xs : List (Option Item)) (x : Item) (s : ℕ) → item_at xs s ≡ Some x → (j : ℕ) → j < length (empty_from k xs) → get_or (empty_from k xs) j 0 ≡ k + s → ⊥
  not_empty k [] x s there j lt e = cc
  not_empty k (None ∷ xs) x zero there j lt e = cc
  not_empty k (None ∷ xs) x (suc s) there zero lt e = omega arith
  not_empty k (None ∷ xs) x (suc s) there (suc j) lt e = not_empty (suc k) xs x s there j (omega arith) (omega arith)
  not_empty k (Some y ∷ xs) x zero there j lt e = let l : suc k + j ≤ get_or (empty_from (suc k) xs) j 0 = low (suc k) xs j lt in omega arith
  not_empty k (Some y ∷ xs) x (suc s) there j lt e = not_empty (suc k) xs x s there j lt (omega arith)

  -- where the slot holds an item, none of those from a number on that are no lower is the slot itself
  pub stands_at : (xs : List (Option Item)) (es : List ℕ) (s n : ℕ) → es ≡ empty_from 0 xs → IsSome (item_at xs s) → n ≤ length es → ((j : ℕ) → j < n → get_or es j 0 < s)
      → ((j : ℕ) → n ≤ j → j < length es → s ≤ get_or es j 0) → Stands es s n
  stands_at xs es s n listed there inside before after = by (item_at xs s) refl there
    where
      above : (e : ℕ) → s ≤ e → (e ≡ s → ⊥) → s < e
      above e le other = omega arith

      by : (o : Option Item) → item_at xs s ≡ o → IsSome o → Stands es s n
      by None e h = absurd (cc)
      by (Some x) e h = record {
        within = inside;
        before = before;
        after = λ j le lt. above (get_or es j 0) (after j le lt)
            (λ same. not_empty 0 xs x s e j (subst (λ fs. j < length fs) listed lt) (ap (λ fs. get_or fs j 0) (sym listed) ∙ same ∙ (let z : s ≡ 0 + s = omega arith in z)));
      }

  -- so many slots stand before a slot as it has a number
  pub before_within : (k : ℕ) (xs : List (Option Item)) (n s t : ℕ) → t ≡ k + s → Stands (empty_from k xs) t n → n ≤ s
  before_within k xs n s t at stands = by n refl
    where
      by : (m : ℕ) → n ≡ m → n ≤ s
      by zero is = omega arith
      by (suc m) is =
          let w : n ≤ length (empty_from k xs) = stands.within in
          let b : get_or (empty_from k xs) m 0 < t = stands.before m (omega arith) in
          let l : k + m ≤ get_or (empty_from k xs) m 0 = low k xs m (omega arith) in omega arith

  -- slots that all hold an item
  pub items_of-full : (xs : List Item) → items_in (map Some xs) ≡ xs
  items_of-full [] = refl
  items_of-full (x ∷ xs) = ap (λ zs. x ∷ zs) (items_of-full xs)

  pub empty_of-full : (k : ℕ) (xs : List Item) → empty_from k (map Some xs) ≡ []
  empty_of-full k [] = refl
  empty_of-full k (x ∷ xs) = empty_of-full (suc k) xs

  pub full_kept : (xs : List (Option Item)) → filter is_some xs ≡ map Some (items_in xs)
  full_kept [] = refl
  full_kept (None ∷ xs) = full_kept xs
  full_kept (Some x ∷ xs) = ap (λ zs. Some x ∷ zs) (full_kept xs)

  pub items_append : (xs ys : List (Option Item)) → items_in (xs ++ ys) ≡ items_in xs ++ items_in ys
  items_append [] ys = refl
  items_append (None ∷ xs) ys = items_append xs ys
  items_append (Some x ∷ xs) ys = ap (λ zs. x ∷ zs) (items_append xs ys)

  pub empty_push : (k : ℕ) (xs : List (Option Item)) (x : Item) → empty_from k (xs ++ Some x ∷ []) ≡ empty_from k xs
  empty_push k [] x = refl
  empty_push k (None ∷ xs) x = ap (λ zs. k ∷ zs) (empty_push (suc k) xs x)
  empty_push k (Some y ∷ xs) x = empty_push (suc k) xs x

  pub item_at_read : (xs : List (Option Item)) (s : ℕ) (o : Option Item) → s < length xs → o ≡ get_or xs s o → item_at xs s ≡ o
  item_at_read [] s o lt is = absurd (omega arith)
  item_at_read (y ∷ xs) zero o lt is = sym is
  item_at_read (y ∷ xs) (suc s) o lt is = item_at_read xs s o (omega arith) is

  pub item_at_past : (xs : List (Option Item)) (s : ℕ) → length xs ≤ s → item_at xs s ≡ None
  item_at_past [] s past = refl
  item_at_past (y ∷ xs) zero past = absurd (omega arith)
  item_at_past (y ∷ xs) (suc s) past = item_at_past xs s (omega arith)

  -- slots that are equal one by one
  pub same_slots : (R : Option Item → Option Item → Type 0) → ((a b : Option Item) → R a b → b ≡ a) → (xs ys : List (Option Item)) → AllZip R xs ys → ys ≡ xs
  same_slots R same [] [] all = refl
  same_slots R same [] (y ∷ ys) all = absurd all
  same_slots R same (x ∷ xs) [] all = absurd all
  same_slots R same (x ∷ xs) (y ∷ ys) all = ap₂ (λ z zs. z ∷ zs) (same x y all.0) (same_slots R same xs ys all.1)

  pub same_options : (R : Option Item → Option Item → Type 0) → ((x y : Item) → R (Some x) (Some y) → y ≡ x) → ((x : Item) → R (Some x) None → ⊥) → ((y : Item) → R None (Some y) → ⊥)
      → (a b : Option Item) → R a b → b ≡ a
  same_options R same gone more None None r = refl
  same_options R same gone more None (Some y) r = absurd (more y r)
  same_options R same gone more (Some x) None r = absurd (gone x r)
  same_options R same gone more (Some x) (Some y) r = ap Some (same x y r)

-- entries that are copies one by one are the same
pub same_entries : (es fs : List (ℕ × ℕ)) → AllZip (λ p q. (q.0 ≡ p.0) × (q.1 ≡ p.1)) es fs → fs ≡ es
same_entries [] [] all = refl
same_entries [] (f ∷ fs) all = absurd all
same_entries (e ∷ es) [] all = absurd all
same_entries (e ∷ es) (f ∷ fs) all = ap₂ (λ x xs. x ∷ xs) (λ i. (all.0.0 i, all.0.1 i)) (same_entries es fs all.1)

pub taken_twice : {X : Type 0} (n m : ℕ) (xs : List X) → n ≤ m → take n (take m xs) ≡ take n xs
taken_twice zero zero xs le = refl
taken_twice zero (suc m) [] le = refl
taken_twice zero (suc m) (x ∷ xs) le = refl
taken_twice (suc n) zero xs le = absurd (omega arith)
taken_twice (suc n) (suc m) [] le = refl
taken_twice (suc n) (suc m) (x ∷ xs) le = ap (λ zs. x ∷ zs) (taken_twice n m xs (omega arith))

taken-next : {X : Type 0} (i : ℕ) (xs : List X) (d : X) → i < length xs → take (suc i) xs ≡ take i xs ++ get_or xs i d ∷ []
taken-next i [] d lt = absurd (omega arith)
taken-next zero (x ∷ xs) d lt = refl
taken-next (suc i) (x ∷ xs) d lt = ap (λ zs. x ∷ zs) (taken-next i xs d (omega arith))

pub taken_more : {X : Type 0} (i : ℕ) (xs : List X) (d : X) → i < length xs → take (i + 1) xs ≡ take i xs ++ get_or xs i d ∷ []
taken_more i xs d lt = rw add-one (taken-next i xs d lt)

-- what follows either way from what a call says of its success and of its failure
pub either_way : {A B : Type 0} (r : Result A B) {P Q R : Type 0} → OnOk r P → OnErr r Q → (P → R) → (Q → R) → R
either_way (Ok a) p q ok err = ok p
either_way (Err b) p q ok err = err q

pub on_ok : {A B : Type 0} (r : Result A B) {P Q : Type 0} → OnOk r P → (P → Q) → OnOk r Q
on_ok (Ok a) p f = f p
on_ok (Err b) p f = p

pub counted_as : {Item : Type 0} (xs : List (Option Item)) (es : List ℕ) → es ≡ empty_from 0 xs → length (items_in xs) + length es ≡ length xs
counted_as xs es listed = ap (λ fs. length (items_in xs) + length fs) listed ∙ counted 0 xs

-- ---- a place and its slot, as calls say them

module _ {Item : Type 0} (xs : List (Option Item)) (es : List ℕ) (p s : ℕ) (listed : es ≡ empty_from 0 xs) (order : p ≤ s) (stands : Stands es s (s - p)) where
  own : Stands (empty_from 0 xs) s (s - p)
  own = subst (λ fs. Stands fs s (s - p)) listed stands

  parts : s ≡ p + (s - p)
  parts = omega arith

  first : s ≡ 0 + s
  first = omega arith

  pub placed : item_at xs s ≡ slice_get (items_in xs) p
  placed = at_place 0 xs p (s - p) s s parts first own

  pub changed_there : (f : Item → Item) → items_in (changed_at (option_map f) xs s) ≡ changed_at f (items_in xs) p
  changed_there f = changed_in f 0 xs p (s - p) s s parts first own

  pub items_kept : items_in (take s xs) ≡ take p (items_in xs)
  items_kept = items_taken 0 xs p (s - p) s s parts first own

  pub empty_kept : take (s - p) es ≡ empty_from 0 (take s xs)
  empty_kept = ap (take (s - p)) listed ∙ empty_taken 0 xs (s - p) s s first own

  pub empty_listed : (x : Item) → item_at xs s ≡ Some x → insert es (s - p) s ≡ empty_from 0 (slice_set xs s None)
  empty_listed x there = ap (λ fs. insert fs (s - p) s) listed ∙ empty_more 0 xs x (s - p) s s there first own

pub ok_then : {A B : Type 0} (r : Result A B) (a : A) {P : Type 0} → r ≡ Ok a → OnOk r P → P
ok_then (Ok b) a is p = p
ok_then (Err b) a is p = absurd (cc)

pub on_ok_from : {A B : Type 0} (r : Result A B) {P : Type 0} → P → OnOk r P
on_ok_from (Ok a) p = p
on_ok_from (Err b) p = tt

pub on_ok_none : {A B : Type 0} (r : Result A B) (b : B) (P : Type 0) → r ≡ Err b → OnOk r P
on_ok_none (Ok a) b P is = absurd (cc)
on_ok_none (Err a) b P is = tt

pub same_numbers : (xs ys : List ℕ) → AllZip (λ x y. y ≡ x) xs ys → ys ≡ xs
same_numbers [] [] all = refl
same_numbers [] (y ∷ ys) all = absurd all
same_numbers (x ∷ xs) [] all = absurd all
same_numbers (x ∷ xs) (y ∷ ys) all = ap₂ (λ z zs. z ∷ zs) all.0 (same_numbers xs ys all.1)
