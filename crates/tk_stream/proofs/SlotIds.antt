-- Items in slots, by their ids.
use Rattle.std.proofs.Common.{◌≡◌, ℕ, zero, suc, ◌+◌, ◌≤◌, ◌<◌, List, [], ◌∷◌, ◌++◌, length, take, get_or, slice_get, Bool, true, false, cond, nat_eq, map, filter, Option, Some, None, refl, ap, ap₂, sym, subst, ◌∙◌, arith, true≢false}
use Rattle.std.specs.Prelude.{drop, IsSome, slice_set, option_map, not, ◌||◌}
use Rattle.std.specs.List.{IsDistinct, AllByRecursion, position_or_len}
use Rattle.std.proofs.lemmas.Bool.{eqb-true, eq-eqb, lt-ltb, le-ltb}
use Rattle.std.proofs.lemmas.List.{take_all}
use Rattle.std.proofs.lemmas.List.Folds.{list_any-append}
use Rattle.std.proofs.lemmas.Option.{slice_get_within}
use Rattle.tk_stream.specs.Places.{place_with}
use Rattle.tk_stream.specs.Slots.{items_in, item_at, slot_with}
use Rattle.tk_stream.specs.Tables.{item_with, changed_at, put_item, is_among, staying}
use Rattle.tk_stream.proofs.LinesLemmas.{differ}
use Rattle.tk_stream.proofs.SlotLemmas.{taken_more}

-- ---- items by their ids

next-slot : (o : Option ℕ) (s : ℕ) (P : ℕ → Type 0) → option_map suc o ≡ Some s → ((t : ℕ) → o ≡ Some t → P (suc t)) → P s
next-slot None s P is later = absurd (cc)
next-slot (Some t) s P is later = let n : suc t ≡ s = (cc) in subst P n (later t refl)

some-slot : (b : Bool) (o : Option ℕ) (s : ℕ) (P : ℕ → Type 0) → cond b (Some zero) (option_map suc o) ≡ Some s → (b ≡ true → P zero) → (b ≡ false → (t : ℕ) → o ≡ Some t → P (suc t)) → P s
some-slot true o s P is here later = let n : zero ≡ s = (cc) in subst P n (here refl)
some-slot false o s P is here later = next-slot o s P is (later refl)

later-none : (o : Option ℕ) → option_map suc o ≡ None → o ≡ None
later-none None e = refl
later-none (Some s) e = absurd (cc)

no-first : {X : Type 0} (b : Bool) (x : X) (o : Option X) → cond b (Some x) o ≡ None → (b ≡ false) × (o ≡ None)
no-first true x o none = absurd (cc)
no-first false x o none = (refl, none)

-- a change of what stands after the first is one of the whole
under : (b : Bool) (o : Option ℕ) → cond b None (option_map suc o) ≡ option_map suc (cond b None o)
under true o = refl
under false o = refl

module _ {Item : Type 0} (id_of : Item → ℕ) where
  -- no item has this id
  abbrev pub IsApart : ℕ → List Item → Type 0
  IsApart id xs = AllByRecursion (λ n. nat_eq id n ≡ false) (map id_of xs)

  apart-none : (id : ℕ) (xs : List Item) → IsApart id xs → item_with id_of id xs ≡ None
  apart-none id [] apart = refl
  apart-none id (x ∷ xs) apart = rw apart.0 (apart-none id xs apart.1)

  none-apart : (id : ℕ) (xs : List Item) → item_with id_of id xs ≡ None → IsApart id xs
  none-apart id [] none = tt
  none-apart id (x ∷ xs) none = let p = no-first (nat_eq id (id_of x)) x (item_with id_of id xs) none in (p.0, none-apart id xs p.1)

  pub staying_apart : (id : ℕ) (xs : List Item) → IsApart id xs → staying id_of (id ∷ []) xs ≡ xs
  staying_apart id [] apart = refl
  staying_apart id (x ∷ xs) apart = rw (differ id (id_of x) apart.0) (ap (λ zs. x ∷ zs) (staying_apart id xs apart.1))

  pub staying_absent : (id : ℕ) (xs : List Item) → item_with id_of id xs ≡ None → staying id_of (id ∷ []) xs ≡ xs
  staying_absent id xs none = staying_apart id xs (none-apart id xs none)

  pub all-kept : (P : Item → Type 0) (p : Item → Bool) (xs : List Item) → AllByRecursion P xs → AllByRecursion P (filter p xs)
  all-kept P p [] all = tt
  all-kept P p (x ∷ xs) all = by (p x) (all-kept P p xs all.1)
    where
      by : (b : Bool) → AllByRecursion P (filter p xs) → AllByRecursion P (cond b (x ∷ filter p xs) (filter p xs))
      by true rest = (all.0, rest)
      by false rest = rest

  pub all-push : (P : Item → Type 0) (xs : List Item) (x : Item) → AllByRecursion P xs → P x → AllByRecursion P (xs ++ x ∷ [])
  all-push P [] x all p = (p, tt)
  all-push P (y ∷ xs) x all p = (all.0, all-push P xs x all.1 p)

  pub all-front : (P : Item → Type 0) (xs ys : List Item) → AllByRecursion P (xs ++ ys) → AllByRecursion P xs
  all-front P [] ys all = tt
  all-front P (x ∷ xs) ys all = (all.0, all-front P xs ys all.1)

  apart-push : (id : ℕ) (xs : List Item) (x : Item) → IsApart id xs → nat_eq id (id_of x) ≡ false → IsApart id (xs ++ x ∷ [])
  apart-push id [] x apart other = (other, tt)
  apart-push id (y ∷ xs) x apart other = (apart.0, apart-push id xs x apart.1 other)

  apart-front : (id : ℕ) (xs ys : List Item) → IsApart id (xs ++ ys) → IsApart id xs
  apart-front id [] ys apart = tt
  apart-front id (x ∷ xs) ys apart = (apart.0, apart-front id xs ys apart.1)

  pub distinct-push : (xs : List Item) (x : Item) → IsDistinct nat_eq (map id_of xs) → item_with id_of (id_of x) xs ≡ None → IsDistinct nat_eq (map id_of (xs ++ x ∷ []))
  unfolding IsDistinct
  distinct-push [] x distinct none = (tt, tt)
  distinct-push (y ∷ xs) x distinct none =
      let apart : IsApart (id_of x) (y ∷ xs) = none-apart (id_of x) (y ∷ xs) none in
      (apart-push (id_of y) xs x distinct.0 (differ (id_of x) (id_of y) apart.0), distinct-push xs x distinct.1 (apart-none (id_of x) xs apart.1))

  pub distinct-front : (xs ys : List Item) → IsDistinct nat_eq (map id_of (xs ++ ys)) → IsDistinct nat_eq (map id_of xs)
  unfolding IsDistinct
  distinct-front [] ys distinct = tt
  distinct-front (x ∷ xs) ys distinct = (apart-front (id_of x) xs ys distinct.0, distinct-front xs ys distinct.1)

  -- an item of those that are distinct is apart from the ones before it
  before-apart : (xs ys : List Item) (x : Item) → IsDistinct nat_eq (map id_of (xs ++ x ∷ ys)) → item_with id_of (id_of x) xs ≡ None
  unfolding IsDistinct
  before-apart [] ys x distinct = refl
  before-apart (y ∷ xs) ys x distinct = rw (other xs distinct.0) (before-apart xs ys x distinct.1)
    where
      other : (zs : List Item) → IsApart (id_of y) (zs ++ x ∷ ys) → nat_eq (id_of x) (id_of y) ≡ false
      other [] apart = differ (id_of y) (id_of x) apart.0
      other (z ∷ zs) apart = other zs apart.1

  -- what stays where these leave and then one more
  pub staying_more : (gone : List ℕ) (id : ℕ) (xs : List Item) → staying id_of (id ∷ []) (staying id_of gone xs) ≡ staying id_of (gone ++ id ∷ []) xs
  staying_more gone id [] = refl
  staying_more gone id (x ∷ xs) = by (is_among gone (id_of x)) (list_any-append (λ n. nat_eq (id_of x) n) gone (id ∷ [])) (staying_more gone id xs)
    where
      by : (b : Bool) → is_among (gone ++ id ∷ []) (id_of x) ≡ (b || is_among (id ∷ []) (id_of x)) → staying id_of (id ∷ []) (staying id_of gone xs) ≡ staying id_of (gone ++ id ∷ []) xs
          → staying id_of (id ∷ []) (cond (not b) (x ∷ staying id_of gone xs) (staying id_of gone xs)) ≡ staying id_of (gone ++ id ∷ []) (x ∷ xs)
      by true e rest = rw e rest
      by false e rest = rw (e, rest) refl

  pub staying_next : (i : ℕ) (ids : List ℕ) (xs : List Item) → i < length ids → staying id_of (get_or ids i 0 ∷ []) (staying id_of (take i ids) xs) ≡ staying id_of (take (i + 1) ids) xs
  staying_next i ids xs lt = staying_more (take i ids) (get_or ids i 0) xs ∙ ap (λ gone. staying id_of gone xs) (sym (taken_more i ids 0 lt))

  -- ---- slots by the ids of their items

  abbrev Slotted : Type 0
  Slotted = List (Option Item)

  -- an item is found by its slot
  pub found : (id : ℕ) (xs : Slotted) (s : ℕ) → slot_with id_of id xs ≡ Some s → item_at xs s ≡ item_with id_of id (items_in xs)
  found id [] s is = absurd (cc)
  found id (None ∷ xs) s is = next-slot (slot_with id_of id xs) s (λ m. item_at (None ∷ xs) m ≡ item_with id_of id (items_in xs)) is (λ t e. found id xs t e)
  found id (Some x ∷ xs) s is =
      some-slot (nat_eq id (id_of x)) (slot_with id_of id xs) s (λ m. item_at (Some x ∷ xs) m ≡ cond (nat_eq id (id_of x)) (Some x) (item_with id_of id (items_in xs))) is
      (λ e. rw e refl) (λ e t there. rw e (found id xs t there))

  -- one that has no slot isn't there
  pub unfound : (id : ℕ) (xs : Slotted) → slot_with id_of id xs ≡ None → item_with id_of id (items_in xs) ≡ None
  unfound id [] none = refl
  unfound id (None ∷ xs) none = unfound id xs (later-none (slot_with id_of id xs) none)
  unfound id (Some x ∷ xs) none =
      let p = no-first (nat_eq id (id_of x)) zero (option_map suc (slot_with id_of id xs)) none in rw p.0 (unfound id xs (later-none (slot_with id_of id xs) p.1))

  pub absent : (id : ℕ) (xs : Slotted) → item_with id_of id (items_in xs) ≡ None → slot_with id_of id xs ≡ None
  absent id [] none = refl
  absent id (None ∷ xs) none = ap (option_map suc) (absent id xs none)
  absent id (Some x ∷ xs) none = let p = no-first (nat_eq id (id_of x)) x (item_with id_of id (items_in xs)) none in rw p.0 (ap (option_map suc) (absent id xs p.1))

  -- a slot that is found holds an item with the id
  abbrev Holds : ℕ → Slotted → ℕ → Type 0
  Holds id xs s = (x : Item) × (item_at xs s ≡ Some x) × (id_of x ≡ id)

  pub held : (id : ℕ) (xs : Slotted) (s : ℕ) → slot_with id_of id xs ≡ Some s → Holds id xs s
  held id [] s is = absurd (cc)
  held id (None ∷ xs) s is = next-slot (slot_with id_of id xs) s (Holds id (None ∷ xs)) is (λ t e. held id xs t e)
  held id (Some y ∷ xs) s is =
      some-slot (nat_eq id (id_of y)) (slot_with id_of id xs) s (Holds id (Some y ∷ xs)) is (λ e. (y, refl, sym (eqb-true id (id_of y) e))) (λ e t there. held id xs t there)

  within : (xs : Slotted) (s : ℕ) (x : Item) → item_at xs s ≡ Some x → s < length xs
  within [] s x there = absurd (cc)
  within (o ∷ xs) zero x there = omega arith
  within (o ∷ xs) (suc s) x there = let l : s < length xs = within xs s x there in omega arith

  pub held_within : (id : ℕ) (xs : Slotted) (s : ℕ) → slot_with id_of id xs ≡ Some s → s < length xs
  held_within id xs s is = let h = held id xs s is in within xs s h.0 h.1

  -- ---- one more slot after the others

  either-slot : (q : ℕ) (x : Item) (n : ℕ) (o : Option ℕ) → Option ℕ
  either-slot q x n (Some s) = Some s
  either-slot q x n None = cond (nat_eq q (id_of x)) (Some n) None

  later-either : (q : ℕ) (x : Item) (n : ℕ) (o : Option ℕ) → option_map suc (either-slot q x n o) ≡ either-slot q x (suc n) (option_map suc o)
  unfolding either-slot
  later-either q x n (Some s) = refl
  later-either q x n None = none (nat_eq q (id_of x))
    where
      none : (b : Bool) → option_map suc (cond b (Some n) None) ≡ cond b (Some (suc n)) None
      none true = refl
      none false = refl

  -- where it is found then: where it was, or in the last one
  one_before : (q : ℕ) (x : Item) (xs : Slotted) → slot_with id_of q (xs ++ Some x ∷ []) ≡ either-slot q x (length xs) (slot_with id_of q xs)
  unfolding either-slot
  one_before q x [] = refl
  one_before q x (None ∷ xs) = ap (option_map suc) (one_before q x xs) ∙ later-either q x (length xs) (slot_with id_of q xs)
  one_before q x (Some y ∷ xs) = by (nat_eq q (id_of y)) (ap (option_map suc) (one_before q x xs) ∙ later-either q x (length xs) (slot_with id_of q xs))
    where
      by : (b : Bool) → option_map suc (slot_with id_of q (xs ++ Some x ∷ [])) ≡ either-slot q x (suc (length xs)) (option_map suc (slot_with id_of q xs))
          → cond b (Some zero) (option_map suc (slot_with id_of q (xs ++ Some x ∷ []))) ≡ either-slot q x (suc (length xs)) (cond b (Some zero) (option_map suc (slot_with id_of q xs)))
      by true rest = refl
      by false rest = rest

  -- an item that is new
  pub pushed : (x : Item) (xs : Slotted) → slot_with id_of (id_of x) xs ≡ None → (q : ℕ) → cond (nat_eq (id_of x) q) (Some (length xs)) (slot_with id_of q xs) ≡ slot_with id_of q (xs ++ Some x ∷ [])
  unfolding either-slot
  pushed x xs none q = by (nat_eq (id_of x) q) refl ∙ sym (one_before q x xs)
    where
      other : (o : Option ℕ) → nat_eq q (id_of x) ≡ false → o ≡ either-slot q x (length xs) o
      other (Some s) e = refl
      other None e = rw e refl

      by : (b : Bool) → nat_eq (id_of x) q ≡ b → cond b (Some (length xs)) (slot_with id_of q xs) ≡ either-slot q x (length xs) (slot_with id_of q xs)
      by true e =
          let same : id_of x ≡ q = eqb-true (id_of x) q e in
          let here : slot_with id_of q xs ≡ None = ap (λ n. slot_with id_of n xs) (sym same) ∙ none in
          rw (here, eq-eqb q (id_of x) (sym same)) refl
      by false e = other (slot_with id_of q xs) (differ (id_of x) q e)

  -- the last slot goes, with its item
  pub popped : (x : Item) (xs : Slotted) → IsDistinct nat_eq (map id_of (items_in xs ++ x ∷ [])) → (q : ℕ) → cond (nat_eq (id_of x) q) None (slot_with id_of q (xs ++ Some x ∷ [])) ≡ slot_with id_of q xs
  unfolding either-slot
  popped x xs distinct q = ap (cond (nat_eq (id_of x) q) None) (one_before q x xs) ∙ by (nat_eq (id_of x) q) refl
    where
      other : (o : Option ℕ) → nat_eq q (id_of x) ≡ false → either-slot q x (length xs) o ≡ o
      other (Some s) e = refl
      other None e = rw e refl

      by : (b : Bool) → nat_eq (id_of x) q ≡ b → cond b None (either-slot q x (length xs) (slot_with id_of q xs)) ≡ slot_with id_of q xs
      by true e =
          let same : id_of x ≡ q = eqb-true (id_of x) q e in
          sym (ap (λ n. slot_with id_of n xs) (sym same) ∙ absent (id_of x) xs (before-apart (items_in xs) [] x distinct))
      by false e = other (slot_with id_of q xs) (differ (id_of x) q e)

  pub popped_empty : (xs : Slotted) (q : ℕ) → slot_with id_of q (xs ++ None ∷ []) ≡ slot_with id_of q xs
  popped_empty [] q = refl
  popped_empty (None ∷ xs) q = ap (option_map suc) (popped_empty xs q)
  popped_empty (Some x ∷ xs) q = ap (λ o. cond (nat_eq q (id_of x)) (Some zero) (option_map suc o)) (popped_empty xs q)

  -- ---- a slot that is emptied

  same-id : (id q : ℕ) (x : Item) → nat_eq id (id_of x) ≡ false → nat_eq q (id_of x) ≡ true → nat_eq id q ≡ false
  same-id id q x other is = ap (nat_eq id) (eqb-true q (id_of x) is) ∙ other

  abbrev IsVacated : ℕ → ℕ → Slotted → ℕ → Type 0
  IsVacated id q xs s = cond (nat_eq id q) None (slot_with id_of q xs) ≡ slot_with id_of q (slice_set xs s None)

  goes : (id q : ℕ) (x : Item) (xs : Slotted) → IsApart (id_of x) (items_in xs) → nat_eq id (id_of x) ≡ true → IsVacated id q (Some x ∷ xs) zero
  goes id q x xs apart is = by (nat_eq id q) refl
    where
      own : id ≡ id_of x
      own = eqb-true id (id_of x) is

      by : (b : Bool) → nat_eq id q ≡ b → cond b None (cond (nat_eq q (id_of x)) (Some zero) (option_map suc (slot_with id_of q xs))) ≡ option_map suc (slot_with id_of q xs)
      by true e =
          let same : q ≡ id_of x = sym (eqb-true id q e) ∙ own in
          sym (ap (λ n. option_map suc (slot_with id_of n xs)) same ∙ ap (option_map suc) (absent (id_of x) xs (apart-none (id_of x) (items_in xs) apart)))
      by false e = let other : nat_eq q (id_of x) ≡ false = ap (nat_eq q) (sym own) ∙ differ id q e in rw other refl

  stays : (id q : ℕ) (x : Item) (xs : Slotted) (t : ℕ) → nat_eq id (id_of x) ≡ false → IsVacated id q xs t → IsVacated id q (Some x ∷ xs) (suc t)
  stays id q x xs t other rest = by (nat_eq q (id_of x)) refl
    where
      by : (b : Bool) → nat_eq q (id_of x) ≡ b → cond (nat_eq id q) None (cond b (Some zero) (option_map suc (slot_with id_of q xs))) ≡ cond b (Some zero) (option_map suc (slot_with id_of q (slice_set xs t None)))
      by true is = rw (same-id id q x other is) refl
      by false is = under (nat_eq id q) (slot_with id_of q xs) ∙ ap (option_map suc) rest

  pub vacated : (id : ℕ) (xs : Slotted) (s : ℕ) → slot_with id_of id xs ≡ Some s → IsDistinct nat_eq (map id_of (items_in xs)) → (q : ℕ) → IsVacated id q xs s
  unfolding IsDistinct
  vacated id [] s is distinct q = absurd (cc)
  vacated id (None ∷ xs) s is distinct q =
      next-slot (slot_with id_of id xs) s (IsVacated id q (None ∷ xs)) is (λ t e. under (nat_eq id q) (slot_with id_of q xs) ∙ ap (option_map suc) (vacated id xs t e distinct q))
  vacated id (Some x ∷ xs) s is distinct q =
      some-slot (nat_eq id (id_of x)) (slot_with id_of id xs) s (IsVacated id q (Some x ∷ xs)) is
      (λ e. goes id q x xs distinct.0 e) (λ e t there. stays id q x xs t e (vacated id xs t there distinct.1 q))

  -- its item is the one that leaves
  abbrev IsLeft : ℕ → Slotted → ℕ → Type 0
  IsLeft id xs s = items_in (slice_set xs s None) ≡ staying id_of (id ∷ []) (items_in xs)

  pub left : (id : ℕ) (xs : Slotted) (s : ℕ) → slot_with id_of id xs ≡ Some s → IsDistinct nat_eq (map id_of (items_in xs)) → IsLeft id xs s
  unfolding IsDistinct
  left id [] s is distinct = absurd (cc)
  left id (None ∷ xs) s is distinct = next-slot (slot_with id_of id xs) s (IsLeft id (None ∷ xs)) is (λ t e. left id xs t e distinct)
  left id (Some x ∷ xs) s is distinct =
      some-slot (nat_eq id (id_of x)) (slot_with id_of id xs) s (IsLeft id (Some x ∷ xs)) is
      (λ e.
      let own : id ≡ id_of x = eqb-true id (id_of x) e in
      let here : nat_eq (id_of x) id ≡ true = eq-eqb (id_of x) id (sym own) in
      rw here (sym (staying_apart id (items_in xs) (subst (λ n. IsApart n (items_in xs)) (sym own) distinct.0))))
      (λ e t there. rw (differ id (id_of x) e) (ap (λ zs. x ∷ zs) (left id xs t there distinct.1)))

  -- ---- another item with the same id

  abbrev Replaced : Item → Slotted → ℕ → Type 0
  Replaced item xs s = ((q : ℕ) → slot_with id_of q (slice_set xs s (Some item)) ≡ slot_with id_of q xs) × (items_in (slice_set xs s (Some item)) ≡ put_item id_of item (items_in xs))

  replaced : (item : Item) (xs : Slotted) (s : ℕ) → slot_with id_of (id_of item) xs ≡ Some s → Replaced item xs s
  replaced item [] s is = absurd (cc)
  replaced item (None ∷ xs) s is =
      next-slot (slot_with id_of (id_of item) xs) s (Replaced item (None ∷ xs)) is (λ t e. let r = replaced item xs t e in (λ q. ap (option_map suc) (r.0 q), r.1))
  replaced item (Some x ∷ xs) s is =
      some-slot (nat_eq (id_of item) (id_of x)) (slot_with id_of (id_of item) xs) s (Replaced item (Some x ∷ xs)) is
      (λ e. (λ q. ap (λ i. cond (nat_eq q i) (Some zero) (option_map suc (slot_with id_of q xs))) (eqb-true (id_of item) (id_of x) e), rw e refl))
      (λ e t there.
      let r = replaced item xs t there in
      (λ q. ap (λ o. cond (nat_eq q (id_of x)) (Some zero) (option_map suc o)) (r.0 q), rw e (ap (λ zs. x ∷ zs) r.1)))

  pub replaced_slots : (item : Item) (xs : Slotted) (s : ℕ) → slot_with id_of (id_of item) xs ≡ Some s → (q : ℕ) → slot_with id_of q (slice_set xs s (Some item)) ≡ slot_with id_of q xs
  replaced_slots item xs s is = (replaced item xs s is).0

  pub replaced_items : (item : Item) (xs : Slotted) (s : ℕ) → slot_with id_of (id_of item) xs ≡ Some s → items_in (slice_set xs s (Some item)) ≡ put_item id_of item (items_in xs)
  replaced_items item xs s is = (replaced item xs s is).1

  pub put-ids : (item : Item) (xs : List Item) → IsApart (id_of item) xs → put_item id_of item xs ≡ xs ++ item ∷ []
  put-ids item [] apart = refl
  put-ids item (x ∷ xs) apart = rw apart.0 (ap (λ zs. x ∷ zs) (put-ids item xs apart.1))

  pub put_last : (item : Item) (xs : List Item) → item_with id_of (id_of item) xs ≡ None → put_item id_of item xs ≡ xs ++ item ∷ []
  put_last item xs none = put-ids item xs (none-apart (id_of item) xs none)

  -- in an item's place another one with its id leaves the ids as they were
  put_there : (item y : Item) (xs : List Item) → item_with id_of (id_of item) xs ≡ Some y → map id_of (put_item id_of item xs) ≡ map id_of xs
  put_there item y [] there = absurd (cc)
  put_there item y (x ∷ xs) there = by (nat_eq (id_of item) (id_of x)) refl there (put_there item y xs)
    where
      by : (b : Bool) → nat_eq (id_of item) (id_of x) ≡ b → cond b (Some x) (item_with id_of (id_of item) xs) ≡ Some y
          → (item_with id_of (id_of item) xs ≡ Some y → map id_of (put_item id_of item xs) ≡ map id_of xs)
          → map id_of (cond b (item ∷ xs) (x ∷ put_item id_of item xs)) ≡ map id_of (x ∷ xs)
      by true e t rest = ap (λ n. n ∷ map id_of xs) (eqb-true (id_of item) (id_of x) e)
      by false e t rest = ap (λ ns. id_of x ∷ ns) (rest t)

  pub all_put : (P : Item → Type 0) (item : Item) (xs : List Item) → AllByRecursion P xs → P item → AllByRecursion P (put_item id_of item xs)
  all_put P item [] all p = (p, tt)
  all_put P item (x ∷ xs) all p = by (nat_eq (id_of item) (id_of x)) (all_put P item xs all.1 p)
    where
      by : (b : Bool) → AllByRecursion P (put_item id_of item xs) → AllByRecursion P (cond b (item ∷ xs) (x ∷ put_item id_of item xs))
      by true rest = (p, all.1)
      by false rest = (all.0, rest)

  pub distinct_put : (item : Item) (xs : Slotted) (s : ℕ) → slot_with id_of (id_of item) xs ≡ Some s → IsDistinct nat_eq (map id_of (items_in xs)) → IsDistinct nat_eq (map id_of (put_item id_of item (items_in xs)))
  distinct_put item xs s is distinct =
      let h = held (id_of item) xs s is in
      subst (IsDistinct nat_eq) (sym (put_there item h.0 (items_in xs) (sym (found (id_of item) xs s is) ∙ h.1))) distinct

  -- ---- a change that keeps the ids

  module _ (f : Item → Item) (keeps : (x : Item) → id_of (f x) ≡ id_of x) where
    pub changed_slots : (xs : Slotted) (s q : ℕ) → slot_with id_of q (changed_at (option_map f) xs s) ≡ slot_with id_of q xs
    changed_slots [] s q = refl
    changed_slots (None ∷ xs) zero q = refl
    changed_slots (Some x ∷ xs) zero q = ap (λ i. cond (nat_eq q i) (Some zero) (option_map suc (slot_with id_of q xs))) (keeps x)
    changed_slots (None ∷ xs) (suc s) q = ap (option_map suc) (changed_slots xs s q)
    changed_slots (Some x ∷ xs) (suc s) q = ap (λ o. cond (nat_eq q (id_of x)) (Some zero) (option_map suc o)) (changed_slots xs s q)

    pub changed_ids : (xs : Slotted) (s : ℕ) → map id_of (items_in (changed_at (option_map f) xs s)) ≡ map id_of (items_in xs)
    changed_ids [] s = refl
    changed_ids (None ∷ xs) zero = refl
    changed_ids (Some x ∷ xs) zero = ap (λ i. i ∷ map id_of (items_in xs)) (keeps x)
    changed_ids (None ∷ xs) (suc s) = changed_ids xs s
    changed_ids (Some x ∷ xs) (suc s) = ap (λ is. id_of x ∷ is) (changed_ids xs s)

  pub all_changed : (P : Item → Type 0) (f : Item → Item) (xs : Slotted) (s : ℕ) → AllByRecursion P (items_in xs) → ((x : Item) → item_at xs s ≡ Some x → P (f x)) → AllByRecursion P (items_in (changed_at (option_map f) xs s))
  all_changed P f [] s all p = tt
  all_changed P f (None ∷ xs) zero all p = all
  all_changed P f (Some x ∷ xs) zero all p = (p x refl, all.1)
  all_changed P f (None ∷ xs) (suc s) all p = all_changed P f xs s all p
  all_changed P f (Some x ∷ xs) (suc s) all p = (all.0, all_changed P f xs s all.1 p)

  pub changed_set : (f : Item → Item) (xs : Slotted) (s : ℕ) (x : Item) → item_at xs s ≡ Some x → slice_set xs s (Some (f x)) ≡ changed_at (option_map f) xs s
  changed_set f [] s x there = refl
  changed_set f (o ∷ xs) zero x there = rw there refl
  changed_set f (o ∷ xs) (suc s) x there = ap (λ zs. o ∷ zs) (changed_set f xs s x there)

  -- an empty slot has nothing to change
  pub changed_none : (f : Item → Item) (xs : Slotted) (s : ℕ) → item_at xs s ≡ None → slice_set xs s None ≡ changed_at (option_map f) xs s
  changed_none f [] s there = refl
  changed_none f (o ∷ xs) zero there = rw there refl
  changed_none f (o ∷ xs) (suc s) there = ap (λ zs. o ∷ zs) (changed_none f xs s there)

  -- ---- slots that close up, whose numbers are noted one after the other

  or-else : Option ℕ → Option ℕ → Option ℕ
  or-else (Some s) o = Some s
  or-else None o = o

  -- what is noted once so many slots of the new ones were gone through
  pub IsNoted : Slotted → Slotted → ℕ → (ℕ → Option ℕ) → Type 0
  IsNoted old new count slot_of = (q : ℕ) → slot_of q ≡ or-else (slot_with id_of q (take count new)) (slot_with id_of q old)

  pub noted_none : (old new : Slotted) (slot_of : ℕ → Option ℕ) → ((q : ℕ) → slot_of q ≡ slot_with id_of q old) → IsNoted old new 0 slot_of
  unfolding IsNoted or-else
  noted_none old new slot_of found q = found q

  taken-next : (xs : Slotted) (i : ℕ) (o : Option Item) → i < length xs → item_at xs i ≡ o → take (suc i) xs ≡ take i xs ++ o ∷ []
  taken-next [] i o lt there = absurd (omega arith)
  taken-next (x ∷ xs) zero o lt there = ap (λ z. z ∷ []) there
  taken-next (x ∷ xs) (suc i) o lt there = ap (λ zs. x ∷ zs) (taken-next xs i o (omega arith) there)

  length-taken : (xs : Slotted) (i : ℕ) → i < length xs → length (take i xs) ≡ i
  length-taken [] i lt = absurd (omega arith)
  length-taken (x ∷ xs) zero lt = refl
  length-taken (x ∷ xs) (suc i) lt = ap suc (length-taken xs i (omega arith))

  parted : (xs : Slotted) (i : ℕ) (x : Item) → item_at xs i ≡ Some x → items_in xs ≡ items_in (take i xs) ++ x ∷ items_in (drop (suc i) xs)
  parted [] i x there = absurd (cc)
  parted (None ∷ xs) zero x there = absurd (cc)
  parted (Some y ∷ xs) zero x there = let same : y ≡ x = (cc) in ap (λ z. z ∷ items_in xs) same
  parted (None ∷ xs) (suc i) x there = parted xs i x there
  parted (Some y ∷ xs) (suc i) x there = ap (λ zs. y ∷ zs) (parted xs i x there)

  pub noted_next : (old new : Slotted) (i : ℕ) (x : Item) (slot_of more : ℕ → Option ℕ) → item_at new i ≡ Some x → IsDistinct nat_eq (map id_of (items_in new))
      → ((q : ℕ) → more q ≡ cond (nat_eq (id_of x) q) (Some i) (slot_of q)) → IsNoted old new i slot_of → IsNoted old new (suc i) more
  unfolding IsNoted or-else either-slot
  noted_next old new i x slot_of more there distinct is noted q =
      is q ∙ ap (cond (nat_eq (id_of x) q) (Some i)) (noted q) ∙ by (nat_eq (id_of x) q) refl
      ∙ ap (λ n. or-else (either-slot q x n (slot_with id_of q (take i new))) (slot_with id_of q old)) (sym (length-taken new i lt))
      ∙ ap (λ o. or-else o (slot_with id_of q old)) (sym (one_before q x (take i new)) ∙ ap (slot_with id_of q) (sym (taken-next new i (Some x) lt there)))
    where
      lt : i < length new
      lt = within new i x there

      none : slot_with id_of (id_of x) (take i new) ≡ None
      none = absent (id_of x) (take i new) (before-apart (items_in (take i new)) (items_in (drop (suc i) new)) x (subst (λ xs. IsDistinct nat_eq (map id_of xs)) (parted new i x there) distinct))

      other : (o : Option ℕ) → nat_eq q (id_of x) ≡ false → o ≡ either-slot q x i o
      other (Some s) e = refl
      other None e = rw e refl

      by : (b : Bool) → nat_eq (id_of x) q ≡ b → cond b (Some i) (or-else (slot_with id_of q (take i new)) (slot_with id_of q old)) ≡ or-else (either-slot q x i (slot_with id_of q (take i new))) (slot_with id_of q old)
      by true e =
          let same : id_of x ≡ q = eqb-true (id_of x) q e in
          let here : slot_with id_of q (take i new) ≡ None = ap (λ n. slot_with id_of n (take i new)) (sym same) ∙ none in
          rw (here, eq-eqb q (id_of x) (sym same)) refl
      by false e = ap (λ o. or-else o (slot_with id_of q old)) (other (slot_with id_of q (take i new)) (differ (id_of x) q e))

  -- an empty slot is passed over
  pub noted_past : (old new : Slotted) (i : ℕ) (slot_of : ℕ → Option ℕ) → i < length new → item_at new i ≡ None → IsNoted old new i slot_of → IsNoted old new (suc i) slot_of
  unfolding IsNoted
  noted_past old new i slot_of lt there noted q =
      noted q ∙ ap (λ o. or-else o (slot_with id_of q old)) (sym (popped_empty (take i new) q) ∙ ap (slot_with id_of q) (sym (taken-next new i None lt there)))

  pub noted_as : (old new new' : Slotted) (count count' : ℕ) (slot_of slot_of' : ℕ → Option ℕ) → IsNoted old new count slot_of → new ≡ new' → count ≡ count' → ((q : ℕ) → slot_of' q ≡ slot_of q)
      → IsNoted old new' count' slot_of'
  unfolding IsNoted
  noted_as old new new' count count' slot_of slot_of' noted slots counts same q =
      same q ∙ noted q ∙ ap₂ (λ n xs. or-else (slot_with id_of q (take n xs)) (slot_with id_of q old)) counts slots

  pub noted_all : (old new : Slotted) (count : ℕ) (slot_of : ℕ → Option ℕ) → length new ≤ count → items_in new ≡ items_in old → IsNoted old new count slot_of → (q : ℕ) → slot_of q ≡ slot_with id_of q new
  unfolding IsNoted or-else
  noted_all old new count slot_of past same noted q =
      noted q ∙ ap (λ xs. or-else (slot_with id_of q xs) (slot_with id_of q old)) (take_all count new past) ∙ by (slot_with id_of q new) refl
    where
      by : (o : Option ℕ) → slot_with id_of q new ≡ o → or-else o (slot_with id_of q old) ≡ o
      by (Some s) e = refl
      by None e = absent q old (ap (item_with id_of q) (sym same) ∙ unfound q new e)

  pub noted_there : (old new : Slotted) (count i : ℕ) (x : Item) (slot_of : ℕ → Option ℕ) → item_at new i ≡ Some x → items_in new ≡ items_in old → IsNoted old new count slot_of → IsSome (slot_of (id_of x))
  unfolding IsNoted or-else
  noted_there old new count i x slot_of there same noted =
      rw (noted (id_of x)) (either (slot_with id_of (id_of x) (take count new)) (slot_with id_of (id_of x) old) refl)
    where
      found-in : (xs ys : List Item) → item_with id_of (id_of x) (xs ++ x ∷ ys) ≡ None → ⊥
      found-in [] ys none = let p = no-first (nat_eq (id_of x) (id_of x)) x (item_with id_of (id_of x) ys) none in true≢false (sym (eq-eqb (id_of x) (id_of x) refl) ∙ p.0)
      found-in (y ∷ xs) ys none = found-in xs ys (no-first (nat_eq (id_of x) (id_of y)) y (item_with id_of (id_of x) (xs ++ x ∷ ys)) none).1

      either : (a b : Option ℕ) → slot_with id_of (id_of x) old ≡ b → IsSome (or-else a b)
      either (Some s) b e = refl
      either None (Some s) e = refl
      either None None e =
          absurd (found-in (items_in (take i new)) (items_in (drop (suc i) new)) (ap (item_with id_of (id_of x)) (sym (parted new i x there) ∙ same) ∙ unfound (id_of x) old e))

  -- ---- where an item stands among the others

  differs-at : (n : ℕ) (xs : List Item) (p : ℕ) (x : Item) → IsApart n xs → slice_get xs p ≡ Some x → nat_eq n (id_of x) ≡ false
  differs-at n [] p x h at = absurd (cc)
  differs-at n (y ∷ ys) zero x h at = let same : y ≡ x = (cc) in ap (λ z. nat_eq n (id_of z)) (sym same) ∙ h.0
  differs-at n (y ∷ ys) (suc p) x h at = differs-at n ys p x h.1 at

  own-position : (xs : List Item) (p : ℕ) (x : Item) → IsDistinct nat_eq (map id_of xs) → slice_get xs p ≡ Some x → position_or_len (λ n. nat_eq (id_of x) n) (map id_of xs) ≡ p
  unfolding IsDistinct
  own-position [] p x distinct at = absurd (cc)
  own-position (y ∷ ys) zero x distinct at =
      let same : id_of x ≡ id_of y = let e : y ≡ x = (cc) in ap id_of (sym e) in rw (eq-eqb (id_of x) (id_of y) same) refl
  own-position (y ∷ ys) (suc p) x distinct at = by (nat_eq (id_of x) (id_of y)) refl (own-position ys p x distinct.1 at)
    where
      by : (t : Bool) → nat_eq (id_of x) (id_of y) ≡ t → position_or_len (λ n. nat_eq (id_of x) n) (map id_of ys) ≡ p
          → cond (not t) (1 + position_or_len (λ n. nat_eq (id_of x) n) (map id_of ys)) 0 ≡ suc p
      by true is rest =
          let same : id_of y ≡ id_of x = sym (eqb-true (id_of x) (id_of y) is) in
          let apart : nat_eq (id_of y) (id_of x) ≡ false = differs-at (id_of y) ys p x distinct.0 at in
          let equal : nat_eq (id_of y) (id_of x) ≡ true = eq-eqb (id_of y) (id_of x) same in
          absurd (cc)
      by false is rest = omega arith

  length-ids : (xs : List Item) → length (map id_of xs) ≡ length xs
  length-ids [] = refl
  length-ids (x ∷ xs) = ap suc (length-ids xs)

  -- an item stands at the place of its id
  pub own-place : (xs : List Item) (p : ℕ) (x : Item) → IsDistinct nat_eq (map id_of xs) → slice_get xs p ≡ Some x → place_with id_of (id_of x) xs ≡ Some p
  own-place xs p x distinct at =
      let here = own-position xs p x distinct at in
      let inside : p < length xs = slice_get_within xs p x at in
      let lt : p < length (map id_of xs) = let n : length (map id_of xs) ≡ length xs = length-ids xs in omega arith in
      rw (here, lt-ltb p (length (map id_of xs)) lt) refl

  past-all : (id : ℕ) (xs : List Item) → IsApart id xs → position_or_len (λ n. nat_eq id n) (map id_of xs) ≡ length (map id_of xs)
  past-all id [] apart = refl
  past-all id (x ∷ xs) apart = rw apart.0 (let e = past-all id xs apart.1 in omega (arith, e))

  pub no-place : (id : ℕ) (xs : List Item) → item_with id_of id xs ≡ None → place_with id_of id xs ≡ None
  no-place id xs none =
      let past : length (map id_of xs) ≤ position_or_len (λ n. nat_eq id n) (map id_of xs) = let e = past-all id xs (none-apart id xs none) in omega (arith, e) in
      rw (le-ltb (position_or_len (λ n. nat_eq id n) (map id_of xs)) (length (map id_of xs)) past) refl

  pub held_some : (id : ℕ) (xs : Slotted) (s : ℕ) → slot_with id_of id xs ≡ Some s → IsSome (item_at xs s)
  held_some id xs s is = let h = held id xs s is in subst IsSome (sym h.1) refl

  -- the item with an id stands at the place of its slot
  pub placed_with : (id : ℕ) (xs : Slotted) (s p : ℕ) → slot_with id_of id xs ≡ Some s → IsDistinct nat_eq (map id_of (items_in xs)) → item_at xs s ≡ slice_get (items_in xs) p → Some p ≡ place_with id_of id (items_in xs)
  placed_with id xs s p is distinct at =
      let h = held id xs s is in sym (ap (λ n. place_with id_of n (items_in xs)) (sym h.2) ∙ own-place (items_in xs) p h.0 distinct (sym at ∙ h.1))
