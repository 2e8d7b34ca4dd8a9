-- Values that are kept under keys, in the order of a list of keys.
use Rattle.std.proofs.Common.{◌≡◌, ◌≢◌, ℕ, zero, suc, ◌+◌, ◌<◌, ◌≤◌, ◌⊎◌, List, [], ◌∷◌, ◌++◌, length, Option, Some, None, refl, ap, sym, ◌∙◌, subst, inl, inr, arith, true≢false}
use Rattle.std.specs.Prelude.{IsSome, IfSome, slice_set, slice_index_or}
use Rattle.std.specs.List.{slice_get, cons_option, remove, SameBelow, ShiftedDown}
use Rattle.std.proofs.lemmas.Bool.{cases_lt, cases_eq}
use Rattle.std.proofs.lemmas.Option.{slice_get_past}
use Rattle.std.proofs.lemmas.List.{get_or-set_same, get_or-set_other, get_or_past, get_or_append_left, length-append}
use Rattle.std.proofs.lemmas.List.Elements.{filter_map-append}
use Rattle.std.proofs.Math.Seq.{get_or-append_seam}
use Rattle.tk_exec.specs.Places.{value_at, values_at, AreKept}
use Rattle.tk_exec.specs.Seats.{Seat, Tasks, ChangesAt}

module _ {T : Type 0} where
  abbrev Kept : List (Option T) → List ℕ → Type 0
  Kept slots keys = (i : ℕ) → i < length keys → IsSome (value_at slots (slice_index_or keys i 0))

  rest_kept : (slots : List (Option T)) (k : ℕ) (keys : List ℕ) → Kept slots (k ∷ keys) → Kept slots keys
  rest_kept slots k keys kept i less = kept (suc i) (omega arith)

  pub as_many : (slots : List (Option T)) (keys : List ℕ) → Kept slots keys → length (values_at slots keys) ≡ length keys
  as_many slots [] kept = refl
  as_many slots (k ∷ keys) kept = go (value_at slots k) (kept zero (omega arith)) (as_many slots keys (rest_kept slots k keys kept))
    where
      go : (o : Option T) → IsSome o → length (values_at slots keys) ≡ length keys → length (cons_option o (values_at slots keys)) ≡ suc (length keys)
      go None is rest = absurd (true≢false (sym is))
      go (Some v) is rest = ap suc rest

  -- the value at a place is the one under the key that stands there
  pub at_place : (slots : List (Option T)) (keys : List ℕ) → Kept slots keys → (i : ℕ) → i < length keys → slice_get (values_at slots keys) i ≡ value_at slots (slice_index_or keys i 0)
  at_place slots [] kept i less = absurd (omega arith)
  at_place slots (k ∷ keys) kept i less = go (value_at slots k) refl (kept zero (omega arith)) (λ j within. at_place slots keys (rest_kept slots k keys kept) j within) i less
    where
      go : (o : Option T) → value_at slots k ≡ o → IsSome o → ((j : ℕ) → j < length keys → slice_get (values_at slots keys) j ≡ value_at slots (slice_index_or keys j 0)) → (i : ℕ) → i < suc (length keys) → slice_get (cons_option o (values_at slots keys)) i ≡ value_at slots (slice_index_or (k ∷ keys) i 0)
      go None e is rest i less = absurd (true≢false (sym is))
      go (Some v) e is rest zero less = sym e
      go (Some v) e is rest (suc i) less = rest i (omega arith)

  module _ (slots : List (Option T)) (keys : List ℕ) (are : AreKept slots keys) (place : ℕ) (less : place < length keys) (v : T) where
    abbrev key : ℕ
    key = slice_index_or keys place 0

    abbrev after : List (Option T)
    after = slice_set slots key (Some v)

    stood_some : IsSome (value_at slots key)
    stood_some = are.kept place less

    in_slots : key < length slots
    in_slots = go (cases_lt key (length slots))
      where
        go : ((key < length slots) ⊎ (length slots ≤ key)) → key < length slots
        go (inl is) = is
        go (inr past) = absurd (true≢false (sym (subst (λ (o : Option T). IsSome o) (get_or_past slots key None past) stood_some)))

    same_at : value_at after key ≡ Some v
    same_at = get_or-set_same slots key (Some v) None in_slots

    other_at : (i : ℕ) → i < length keys → i ≢ place → value_at after (slice_index_or keys i 0) ≡ value_at slots (slice_index_or keys i 0)
    other_at i within isnt = get_or-set_other slots key (slice_index_or keys i 0) (Some v) None (λ same. isnt (are.apart i place within less same))

    pub set_kept : AreKept after keys
    set_kept = record {
      kept = λ i within. go i within (cases_eq i place);
      apart = are.apart;
    }
      where
        go : (i : ℕ) → i < length keys → (i ≡ place) ⊎ (i ≢ place) → IsSome (value_at after (slice_index_or keys i 0))
        go i within (inl is) = subst (λ (o : Option T). IsSome o) (sym (ap (λ (n : ℕ). value_at after (slice_index_or keys n 0)) is ∙ same_at)) refl
        go i within (inr isnt) = subst (λ (o : Option T). IsSome o) (sym (other_at i within isnt)) (are.kept i within)

    pub set_stands : slice_get (values_at after keys) place ≡ Some v
    set_stands = at_place after keys set_kept.kept place less ∙ same_at

    pub set_others : (i : ℕ) → i ≢ place → slice_get (values_at after keys) i ≡ slice_get (values_at slots keys) i
    set_others i isnt = go (cases_lt i (length keys))
      where
        go : ((i < length keys) ⊎ (length keys ≤ i)) → slice_get (values_at after keys) i ≡ slice_get (values_at slots keys) i
        go (inl within) = at_place after keys set_kept.kept i within ∙ (other_at i within isnt ∙ sym (at_place slots keys are.kept i within))
        go (inr past) =
            slice_get_past (values_at after keys) i (rw (as_many after keys set_kept.kept) past)
            ∙ sym (slice_get_past (values_at slots keys) i (rw (as_many slots keys are.kept) past))

    pub set_as_long : length (values_at after keys) ≡ length (values_at slots keys)
    set_as_long = as_many after keys set_kept.kept ∙ sym (as_many slots keys are.kept)

module _ {T : Type 0} where
  same_values : (slots slots' : List (Option T)) (keys : List ℕ) → ((i : ℕ) → i < length keys → value_at slots' (slice_index_or keys i 0) ≡ value_at slots (slice_index_or keys i 0)) → values_at slots' keys ≡ values_at slots keys
  same_values slots slots' [] same = refl
  same_values slots slots' (k ∷ keys) same =
      ap (λ (o : Option T). cons_option o (values_at slots' keys)) (same zero (omega arith))
      ∙ ap (λ (l : List T). cons_option (value_at slots k) l) (same_values slots slots' keys (λ i less. same (suc i) (omega arith)))

  some_not_none : (o : Option T) → IsSome o → o ≡ None → ⊥
  some_not_none None is e = true≢false (sym is)
  some_not_none (Some x) is e = absurd cc

  -- a value under a key that had none, which stands last from now on
  module _ (slots slots' : List (Option T)) (keys : List ℕ) (are : AreKept slots keys) (k : ℕ) (x : T) (vacant : value_at slots k ≡ None) (changed : value_at slots' k ≡ Some x)
      (others : (other : ℕ) → other ≢ k → value_at slots' other ≡ value_at slots other) where
    not_new : (i : ℕ) → i < length keys → slice_index_or keys i 0 ≢ k
    not_new i less is = some_not_none (value_at slots (slice_index_or keys i 0)) (are.kept i less) (ap (λ (n : ℕ). value_at slots n) is ∙ vacant)

    pub push_values : values_at slots' (keys ++ k ∷ []) ≡ values_at slots keys ++ x ∷ []
    push_values =
        filter_map-append (value_at slots') keys (k ∷ [])
        ∙ (ap (λ (l : List T). l ++ cons_option (value_at slots' k) []) (same_values slots slots' keys (λ i less. others (slice_index_or keys i 0) (not_new i less)))
        ∙ ap (λ (o : Option T). values_at slots keys ++ cons_option o []) changed)

    old_key : (i : ℕ) → i < length keys → slice_index_or (keys ++ k ∷ []) i 0 ≡ slice_index_or keys i 0
    old_key i less = get_or_append_left keys (k ∷ []) 0 i less

    new_key : slice_index_or (keys ++ k ∷ []) (length keys) 0 ≡ k
    new_key = get_or-append_seam keys k [] 0

    which : (i : ℕ) → i < length (keys ++ k ∷ []) → (i < length keys) ⊎ (i ≡ length keys)
    which i less = go (cases_lt i (length keys))
      where
        long : length (keys ++ k ∷ []) ≡ length keys + 1
        long = length-append keys (k ∷ [])

        go : (i < length keys) ⊎ (length keys ≤ i) → (i < length keys) ⊎ (i ≡ length keys)
        go (inl low) = inl low
        go (inr high) = inr (omega (arith, high, less, long))

    pub push_kept : AreKept slots' (keys ++ k ∷ [])
    push_kept = record {
      kept = λ i less. has i (which i less);
      apart = λ i j less less' same. one i j (which i less) (which j less') same;
    }
      where
        has : (i : ℕ) → (i < length keys) ⊎ (i ≡ length keys) → IsSome (value_at slots' (slice_index_or (keys ++ k ∷ []) i 0))
        has i (inl low) = subst (λ (o : Option T). IsSome o) (sym (ap (λ (n : ℕ). value_at slots' n) (old_key i low) ∙ others (slice_index_or keys i 0) (not_new i low))) (are.kept i low)
        has i (inr is) = subst (λ (o : Option T). IsSome o) (sym (ap (λ (n : ℕ). value_at slots' n) (ap (λ (n : ℕ). slice_index_or (keys ++ k ∷ []) n 0) is ∙ new_key) ∙ changed)) refl

        one : (i j : ℕ) → (i < length keys) ⊎ (i ≡ length keys) → (j < length keys) ⊎ (j ≡ length keys) → slice_index_or (keys ++ k ∷ []) i 0 ≡ slice_index_or (keys ++ k ∷ []) j 0 → i ≡ j
        one i j (inl a) (inl b) same = are.apart i j a b (sym (old_key i a) ∙ (same ∙ old_key j b))
        one i j (inl a) (inr b) same = absurd (not_new i a (sym (old_key i a) ∙ (same ∙ (ap (λ (n : ℕ). slice_index_or (keys ++ k ∷ []) n 0) b ∙ new_key))))
        one i j (inr a) (inl b) same = absurd (not_new j b (sym (old_key j b) ∙ (sym same ∙ (ap (λ (n : ℕ). slice_index_or (keys ++ k ∷ []) n 0) a ∙ new_key))))
        one i j (inr a) (inr b) same = a ∙ sym b

  -- a place is gone, with the value under its key
  remove_values : (slots slots' : List (Option T)) (keys : List ℕ) (place : ℕ) → Kept slots keys → place < length keys
      → ((i : ℕ) → i < length keys → i ≢ place → value_at slots' (slice_index_or keys i 0) ≡ value_at slots (slice_index_or keys i 0))
      → values_at slots' (remove keys place) ≡ remove (values_at slots keys) place
  remove_values slots slots' [] place kept less same = absurd (omega arith)
  remove_values slots slots' (k ∷ keys) zero kept less same = go (value_at slots k) (kept zero (omega arith)) (same_values slots slots' keys (λ i low. same (suc i) (omega arith) (λ is. absurd (omega (arith, is)))))
    where
      go : (o : Option T) → IsSome o → values_at slots' keys ≡ values_at slots keys → values_at slots' keys ≡ remove (cons_option o (values_at slots keys)) zero
      go None is e = absurd (true≢false (sym is))
      go (Some v) is e = e
  remove_values slots slots' (k ∷ keys) (suc place) kept less same =
      go (value_at slots k) (kept zero (omega arith)) (same zero (omega arith) (λ is. absurd (omega (arith, is))))
      (remove_values slots slots' keys place (rest_kept slots k keys kept) (omega arith) (λ i low isnt. same (suc i) (omega arith) (λ is. isnt (omega (arith, is)))))
    where
      go : (o : Option T) → IsSome o → value_at slots' k ≡ o → values_at slots' (remove keys place) ≡ remove (values_at slots keys) place → values_at slots' (k ∷ remove keys place) ≡ remove (cons_option o (values_at slots keys)) (suc place)
      go None is e rest = absurd (true≢false (sym is))
      go (Some v) is e rest = ap (λ (o : Option T). cons_option o (values_at slots' (remove keys place))) e ∙ ap (λ (l : List T). v ∷ l) rest

  module _ (slots slots' : List (Option T)) (keys : List ℕ) (are : AreKept slots keys) (place : ℕ) (less : place < length keys) (k : ℕ) (is : k ≡ slice_index_or keys place 0)
      (others : (other : ℕ) → other ≢ k → value_at slots' other ≡ value_at slots other) where
    stays : (i : ℕ) → i < length keys → i ≢ place → value_at slots' (slice_index_or keys i 0) ≡ value_at slots (slice_index_or keys i 0)
    stays i low isnt = others (slice_index_or keys i 0) (λ same. isnt (are.apart i place low less (same ∙ is)))

    pub taken_values : values_at slots' (remove keys place) ≡ remove (values_at slots keys) place
    taken_values = remove_values slots slots' keys place are.kept less stays

    pub taken_kept : (keys' : List ℕ) → SameBelow keys keys' place → ShiftedDown keys keys' place → length keys' + 1 ≡ length keys → AreKept slots' keys'
    taken_kept keys' below later_on long = record {
      kept = λ i low. has i low (cases_lt i place);
      apart = λ i j low low' same. one i j low low' (cases_lt i place) (cases_lt j place) same;
    }
      where
        has : (i : ℕ) → i < length keys' → (i < place) ⊎ (place ≤ i) → IsSome (value_at slots' (slice_index_or keys' i 0))
        has i low (inl first) = subst (λ (o : Option T). IsSome o) (sym (ap (λ (n : ℕ). value_at slots' n) (below i 0 first) ∙ stays i (omega (arith, long)) (λ e. absurd (omega (arith, e))))) (are.kept i (omega (arith, long)))
        has i low (inr later) = subst (λ (o : Option T). IsSome o) (sym (ap (λ (n : ℕ). value_at slots' n) (later_on i 0 later) ∙ stays (i + 1) (omega (arith, long)) (λ e. absurd (omega (arith, e))))) (are.kept (i + 1) (omega (arith, long)))

        one : (i j : ℕ) → i < length keys' → j < length keys' → (i < place) ⊎ (place ≤ i) → (j < place) ⊎ (place ≤ j) → slice_index_or keys' i 0 ≡ slice_index_or keys' j 0 → i ≡ j
        one i j low low' (inl a) (inl b) same = are.apart i j (omega (arith, long)) (omega (arith, long)) (sym (below i 0 a) ∙ (same ∙ below j 0 b))
        one i j low low' (inl a) (inr b) same = let e = are.apart i (j + 1) (omega (arith, long)) (omega (arith, long)) (sym (below i 0 a) ∙ (same ∙ later_on j 0 b)) in absurd (omega (arith, e))
        one i j low low' (inr a) (inl b) same = let e = are.apart (i + 1) j (omega (arith, long)) (omega (arith, long)) (sym (later_on i 0 a) ∙ (same ∙ below j 0 b)) in absurd (omega (arith, e))
        one i j low low' (inr a) (inr b) same = let e = are.apart (i + 1) (j + 1) (omega (arith, long)) (omega (arith, long)) (sym (later_on i 0 a) ∙ (same ∙ later_on j 0 b)) in omega (arith, e)

module _ {W A : Type 0} (slots : List (Option (Seat W A))) (keys : List ℕ) (are : AreKept slots keys) where
  -- a place of the tasks is a place of their keys
  pub within : (next : ℕ) (t : Tasks W A) (place : ℕ) → record { seats = values_at slots keys; next = next } ≡ t → place < length t.seats → place < length keys
  within next t place is less =
      let l : place < length (values_at slots keys) = subst (λ (u : Tasks W A). place < length u.seats) (sym is) less in
      subst (λ (n : ℕ). place < n) (as_many slots keys are.kept) l

  module _ (place : ℕ) (less : place < length keys) (k : ℕ) (is : k ≡ slice_index_or keys place 0) where
    pub key_kept : IsSome (value_at slots k)
    key_kept = subst (λ (n : ℕ). IsSome (value_at slots n)) (sym is) (are.kept place less)

    pub key_stands : slice_get (values_at slots keys) place ≡ value_at slots k
    key_stands = at_place slots keys are.kept place less ∙ ap (λ (n : ℕ). value_at slots n) (sym is)

    pub write_kept : (v : Seat W A) → AreKept (slice_set slots k (Some v)) keys
    write_kept v = subst (λ (n : ℕ). AreKept (slice_set slots n (Some v)) keys) (sym is) (set_kept slots keys are place less v)

    -- a write under the key of a place changes that place
    pub write_changes : (old v : Seat W A) (P : Seat W A → Seat W A → Type 0) → value_at slots k ≡ Some old → P old v
        → (change : ChangesAt place (values_at slots keys) (values_at (slice_set slots k (Some v)) keys)) × P change.before change.after
    write_changes old v P was p = subst (λ (n : ℕ). (change : ChangesAt place (values_at slots keys) (values_at (slice_set slots n (Some v)) keys)) × P change.before change.after) (sym is) (
      record {
        before = old;
        after = v;
        stood = key_stands ∙ was;
        stands = set_stands slots keys are place less v;
        others = set_others slots keys are place less v;
        as_long = set_as_long slots keys are place less v;
      },
      p,
    )

    -- the same, of the tasks that were there
    pub write_there : (next : ℕ) (t : Tasks W A) → record { seats = values_at slots keys; next = next } ≡ t → (old v : Seat W A) (P : Seat W A → Seat W A → Type 0) → value_at slots k ≡ Some old → P old v
        → (change : ChangesAt place t.seats (values_at (slice_set slots k (Some v)) keys)) × P change.before change.after
    write_there next t view old v P was p = subst (λ (u : Tasks W A). (change : ChangesAt place u.seats (values_at (slice_set slots k (Some v)) keys)) × P change.before change.after) view (write_changes old v P was p)

    -- what holds of the value under its key holds of the task at a place
    pub some_there : (next : ℕ) (t : Tasks W A) → record { seats = values_at slots keys; next = next } ≡ t → (x : Seat W A) (P : Seat W A → Type 0) → value_at slots k ≡ Some x → P x → IfSome (slice_get t.seats place) P
    some_there next t view x P was p = subst (λ (u : Tasks W A). IfSome (slice_get u.seats place) P) view (subst (λ (o : Option (Seat W A)). IfSome o P) (sym (key_stands ∙ was)) p)

    -- what holds of the task at a place
    pub of_key : (old : Seat W A) (P : Seat W A → Type 0) → value_at slots k ≡ Some old → (o : Option (Seat W A)) → o ≡ slice_get (values_at slots keys) place → IfSome o P → P old
    of_key old P was o here p = go o (here ∙ (key_stands ∙ was)) p
      where
        go : (o : Option (Seat W A)) → o ≡ Some old → IfSome o P → P old
        go None e p = absurd cc
        go (Some x) e p = let same : x ≡ old = cc in subst (λ (s : Seat W A). P s) same p

-- the tasks with one more
pub spawned : {W A : Type 0} (slots slots' : List (Option (Seat W A))) (keys keys' : List ℕ) (k : ℕ) (x y : Seat W A) (next : ℕ) (t : Tasks W A)
    → record { seats = values_at slots keys; next = next } ≡ t → keys' ≡ keys ++ k ∷ [] → x ≡ y → values_at slots' (keys ++ k ∷ []) ≡ values_at slots keys ++ x ∷ []
    → record { seats = values_at slots' keys'; next = next } ≡ record t { seats = t.seats ++ y ∷ [] }
spawned {W} {A} slots slots' keys keys' k x y next t view items seat values =
    let there : values_at slots' keys' ≡ values_at slots keys ++ y ∷ [] = ap (λ (l : List ℕ). values_at slots' l) items ∙ (values ∙ ap (λ (s : Seat W A). values_at slots keys ++ s ∷ []) seat) in
    ap (λ (l : List (Seat W A)). record { seats = l; next = next }) there ∙ ap (λ (u : Tasks W A). record u { seats = u.seats ++ y ∷ [] }) view
