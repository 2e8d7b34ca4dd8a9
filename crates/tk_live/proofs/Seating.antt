-- What stands at the places of a list of which some are empty.
use Rattle.std.proofs.Common.{◌≡◌, ℕ, zero, suc, ◌+◌, ◌-◌, ◌<◌, ◌≤◌, Bool, true, false, cond, List, [], ◌∷◌, length, drop, Option, Some, None, refl, sym, ap, ◌∙◌, subst, arith, add-one}
use Rattle.std.specs.Prelude.{nat_lt, slice_get, slice_set, option_and_then, replicate}
use Rattle.std.proofs.lemmas.Bool.{lt-ltb}
use borrow.Author.Tests.{ltb-true}
use Rattle.tk_live.specs.Items.{EachFrom}
use Rattle.tk_live.specs.Named.{made_item, live_item, with_item}
use Rattle.tk_live.proofs.Places.{at_place, put_place, get_put, made_place, within, live_place, length-set}

-- what stands at a place, if it isn't empty
abbrev pub at : {X : Type 0} → ℕ → List (Option X) → Option X
at i xs = option_and_then (λ o. o) (slice_get xs i)

at_set : {X : Type 0} (xs : List (Option X)) (i : ℕ) (x : Option X) → i < length xs → at i (slice_set xs i x) ≡ x
at_set [] i x lt = absurd (omega (arith, lt))
at_set (y ∷ ys) zero x lt = refl
at_set (y ∷ ys) (suc i) x lt = at_set ys i x (omega (arith, lt))

at_others : {X : Type 0} (xs : List (Option X)) (i j : ℕ) (x : Option X) → (j ≡ i → ⊥) → at j (slice_set xs i x) ≡ at j xs
at_others [] i j x ne = refl
at_others (y ∷ ys) zero zero x ne = absurd (ne refl)
at_others (y ∷ ys) zero (suc j) x ne = refl
at_others (y ∷ ys) (suc i) zero x ne = refl
at_others (y ∷ ys) (suc i) (suc j) x ne = at_others ys i j x (λ e. ne (ap suc e))

-- a number names its place
pub live_at : {X : Type 0} (n : ℕ) (xs : List (Option X)) → 1 ≤ n → live_item n xs ≡ at (n - 1) xs
live_at n xs low = ap (λ (b : Bool). option_and_then (λ o. o) (cond b (slice_get xs (n - 1)) None)) (lt-ltb 0 n (omega (arith, low)))

pub put_here : {X : Type 0} (n : ℕ) (xs : List (Option X)) (x : Option X) → 1 ≤ n → n - 1 < length xs → live_item n (with_item n x xs) ≡ x
put_here n xs x low lt = live_at n (with_item n x xs) low ∙ at_set xs (n - 1) x lt

pub put_elsewhere : {X : Type 0} (m n : ℕ) (xs : List (Option X)) (x : Option X) → (m ≡ n → ⊥) → 1 ≤ n → live_item m (with_item n x xs) ≡ live_item m xs
put_elsewhere m n xs x ne low = go (nat_lt 0 m) refl
  where
    go : (b : Bool) → nat_lt 0 m ≡ b → option_and_then (λ o. o) (cond b (slice_get (slice_set xs (n - 1) x) (m - 1)) None) ≡ option_and_then (λ o. o) (cond b (slice_get xs (m - 1)) None)
    go true is = let high = ltb-true 0 m is in at_others xs (n - 1) (m - 1) x (λ e. let same : m ≡ n = omega (arith, e, low, high) in ne same)
    go false is = refl

-- what is live stands within the list
pub live_within : {X : Type 0} (n : ℕ) (xs : List (Option X)) (x : X) → live_item n xs ≡ Some x → (1 ≤ n) × (n - 1 < length xs)
live_within n xs x live = let p = live_place n xs x live in let lt = within xs p.0 (Some x) p.2 in (omega (arith, p.1), omega (arith, p.1, lt))

-- a number past the end of the list names nothing
pub none_past_end : {X : Type 0} (n : ℕ) (xs : List (Option X)) → length xs < n → live_item n xs ≡ None
none_past_end n xs high = live_at n xs (omega (arith, high)) ∙ go xs (n - 1) (omega (arith, high))
  where
    go : {X : Type 0} (xs : List (Option X)) (i : ℕ) → length xs ≤ i → at i xs ≡ None
    go [] i le = refl
    go (x ∷ xs) zero le = absurd (omega (arith, le))
    go (x ∷ xs) (suc i) le = go xs i (omega (arith, le))

-- something was taken out, and something put back at its place
pub put_back : {X : Type 0} (n : ℕ) (xs left now : List (Option X)) (x y : X) → live_item n xs ≡ Some x → left ≡ with_item n None xs → now ≡ with_item n (Some y) left
    → (live_item n now ≡ Some y) × ((m : ℕ) → (m ≡ n → ⊥) → live_item m now ≡ live_item m xs)
put_back n xs left now x y live gone came =
    let w = live_within n xs x live in
    let long : length left ≡ length xs = ap length gone ∙ length-set xs (n - 1) None in (
      ap (live_item n) came ∙ put_here n left (Some y) w.0 (omega (arith, w.1, long)),
      λ m ne. ap (live_item m) came ∙ (put_elsewhere m n left (Some y) ne w.0 ∙ (ap (live_item m) gone ∙ put_elsewhere m n xs None ne w.0)),
    )

-- where it can be put back
pub place_left : {X : Type 0} (n : ℕ) (xs left : List (Option X)) (x : X) → live_item n xs ≡ Some x → left ≡ with_item n None xs → (1 ≤ n) × (n - 1 < length left)
place_left n xs left x live gone =
    let w = live_within n xs x live in
    let long : length left ≡ length xs = ap length gone ∙ length-set xs (n - 1) None in
    (w.0, omega (arith, w.1, long))

get_others : {X : Type 0} (xs : List X) (i j : ℕ) (x : X) → (j ≡ i → ⊥) → slice_get (slice_set xs i x) j ≡ slice_get xs j
get_others [] i j x ne = refl
get_others (y ∷ ys) zero zero x ne = absurd (ne refl)
get_others (y ∷ ys) zero (suc j) x ne = refl
get_others (y ∷ ys) (suc i) zero x ne = refl
get_others (y ∷ ys) (suc i) (suc j) x ne = get_others ys i j x (λ e. ne (ap suc e))

-- what a number names that was put there, and what another one names
pub made_here : {X : Type 0} (n : ℕ) (xs : List X) (x y : X) → made_item n xs ≡ Some x → made_item n (with_item n y xs) ≡ Some y
made_here n xs x y named =
    let p = made_place n xs x named in
    at_place n p.0 (with_item n y xs) p.1 ∙ (ap (λ l. slice_get l p.0) (put_place n p.0 y xs p.1) ∙ get_put xs p.0 y (within xs p.0 x p.2))

pub made_elsewhere : {X : Type 0} (m n : ℕ) (xs : List X) (x y z : X) → (m ≡ n → ⊥) → made_item n xs ≡ Some x → made_item m xs ≡ Some z → made_item m (with_item n y xs) ≡ Some z
made_elsewhere m n xs x y z ne named other =
    let p = made_place n xs x named in
    let q = made_place m xs z other in
    at_place m q.0 (with_item n y xs) q.1 ∙ (ap (λ l. slice_get l q.0) (put_place n p.0 y xs p.1) ∙ (get_others xs p.0 q.0 y (λ e. ne (let s : m ≡ n = omega (arith, p.1, q.1, e) in s)) ∙ q.2))

-- ---- two lists that are related place by place, of which a place changes

module _ {X Y : Type 0} (R S : ℕ → X → Y → Type 0) where
  each_from : (n : ℕ) (xs : List X) (ys : List Y) → ((k : ℕ) (x : X) (y : Y) → n ≤ k → R k x y → S k x y) → EachFrom R n xs ys → EachFrom S n xs ys
  each_from n [] [] onto each = tt
  each_from n [] (y ∷ ys) onto each = absurd each
  each_from n (x ∷ xs) [] onto each = absurd each
  each_from n (x ∷ xs) (y ∷ ys) onto each = (onto n x y (omega arith) each.0, each_from (n + 1) xs ys (λ k x y le r. onto k x y (omega (arith, le)) r) each.1)

  pub each_as : (n : ℕ) (xs : List X) (ys : List Y) → ((k : ℕ) (x : X) (y : Y) → R k x y → S k x y) → EachFrom R n xs ys → EachFrom S n xs ys
  each_as n xs ys onto each = each_from n xs ys (λ k x y le r. onto k x y r) each

  each_set : (n : ℕ) (xs : List X) (ys : List Y) (i : ℕ) (y new : Y) → slice_get ys i ≡ Some y → ((k : ℕ) (x : X) (z : Y) → (k ≡ n + i → ⊥) → R k x z → S k x z)
      → ((x : X) → slice_get xs i ≡ Some x → R (n + i) x y → S (n + i) x new) → EachFrom R n xs ys → EachFrom S n xs (slice_set ys i new)
  each_set n [] [] i y new stood onto here each = absurd cc
  each_set n [] (z ∷ ys) i y new stood onto here each = absurd each
  each_set n (x ∷ xs) [] i y new stood onto here each = absurd each
  each_set n (x ∷ xs) (z ∷ ys) zero y new stood onto here each =
      let same : z ≡ y = cc in
      let e : n + 0 ≡ n = omega arith in (
        subst (λ m. S m x new) e (here x refl (subst (λ m. R m x y) (sym e) (subst (λ w. R n x w) same each.0))),
        each_from (n + 1) xs ys (λ k x z le r. onto k x z (λ is. let no : ⊥ = omega (arith, is, le) in no) r) each.1,
      )
  each_set n (x ∷ xs) (z ∷ ys) (suc i) y new stood onto here each =
      let e : n + 1 + i ≡ n + suc i = omega arith in (
        onto n x z (λ is. let no : ⊥ = omega (arith, is) in no) each.0,
        each_set (n + 1) xs ys i y new stood (λ k x z ne r. onto k x z (λ is. ne (is ∙ sym e)) r)
            (λ w at r. subst (λ m. S m w new) (sym e) (here w at (subst (λ m. R m w y) e r))) each.1,
      )

  pub each_changed : (xs : List X) (ys : List Y) (n : ℕ) (y new : Y) → made_item n ys ≡ Some y → ((k : ℕ) (x : X) (z : Y) → (k ≡ n → ⊥) → R k x z → S k x z)
      → ((x : X) → made_item n xs ≡ Some x → R n x y → S n x new) → EachFrom R 1 xs ys → EachFrom S 1 xs (with_item n new ys)
  each_changed xs ys n y new named onto here each =
      let p = made_place n ys y named in
      let e : 1 + p.0 ≡ n = omega (arith, p.1) in
      subst (λ l. EachFrom S 1 xs l) (sym (put_place n p.0 new ys p.1))
      (each_set 1 xs ys p.0 y new p.2 (λ k x z ne r. onto k x z (λ is. ne (is ∙ sym e)) r)
      (λ x at r. subst (λ m. S m x new) (sym e) (here x (at_place n p.0 xs p.1 ∙ at) (subst (λ m. R m x y) e r))) each)

-- empty places
pub none_of_none : {X : Type 0} (count n : ℕ) → live_item {X = X} n (replicate count None) ≡ None
none_of_none {X} count n = elim (nat_lt 0 n) as (λ b. ◌≡◌ {A = Option X} (option_and_then (λ o. o) (cond b (slice_get (replicate count None) (n - 1)) None)) None) [ true ↦ empty count (n - 1) | false ↦ refl ]
  where
    empty : (count i : ℕ) → at {X = X} i (replicate count None) ≡ None
    empty zero i = refl
    empty (suc count) zero = refl
    empty (suc count) (suc i) = empty count i

-- lists of one length that have the same at each number are the same
pub all_same : {X : Type 0} (xs ys : List (Option X)) → length xs ≡ length ys → ((n : ℕ) → live_item n xs ≡ live_item n ys) → xs ≡ ys
all_same {X} xs ys long same = by_place xs ys long (λ i. let e : i + 1 - 1 ≡ i = omega arith in
    let low : 1 ≤ i + 1 = omega arith in
    ap (λ k. at k xs) (sym e) ∙ (sym (live_at (i + 1) xs low) ∙ (same (i + 1) ∙ (live_at (i + 1) ys low ∙ ap (λ k. at k ys) e))))
  where
    by_place : (as' bs : List (Option X)) → length as' ≡ length bs → ((i : ℕ) → at i as' ≡ at i bs) → as' ≡ bs
    by_place [] [] e f = refl
    by_place [] (b ∷ bs) e f = absurd (omega (arith, e))
    by_place (a ∷ as') [] e f = absurd (omega (arith, e))
    by_place (a ∷ as') (b ∷ bs) e f = let rest = by_place as' bs (omega (arith, e)) (λ i. f (suc i)) in λ i. f 0 i ∷ rest i

-- the places from one on: the first of them, and the rest
pub drop_at_place : {X : Type 0} (xs : List (Option X)) (i : ℕ) → i < length xs → (o : Option X) × (drop i xs ≡ o ∷ drop (i + 1) xs) × (live_item (i + 1) xs ≡ o)
drop_at_place xs i lt =
    let t = go xs i lt in
    let e : i + 1 - 1 ≡ i = omega arith in
    (t.0, t.1 ∙ ap (λ k. t.0 ∷ drop k xs) (sym (add-one i)), live_at (i + 1) xs (omega arith) ∙ (ap (λ k. at k xs) e ∙ t.2))
  where
    go : {X : Type 0} (xs : List (Option X)) (i : ℕ) → i < length xs → (o : Option X) × (drop i xs ≡ o ∷ drop (suc i) xs) × (at i xs ≡ o)
    go [] i lt = absurd (omega (arith, lt))
    go (x ∷ xs) zero lt = (x, refl, refl)
    go (x ∷ xs) (suc i) lt = go xs i (omega (arith, lt))
