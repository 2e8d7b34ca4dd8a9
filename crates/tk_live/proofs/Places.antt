-- What numbers name in a list, and in another that is related to it place by place.
use Rattle.std.proofs.Common.{◌≡◌, ◌≢◌, ◌⊎◌, ℕ, zero, suc, ◌+◌, ◌-◌, ◌<◌, ◌≤◌, Bool, true, false, cond, List, [], ◌∷◌, ◌++◌, length, get_or, Option, Some, None, inl, inr, refl, sym, ap, subst, ◌∙◌, arith}
use Rattle.std.specs.Prelude.{map, nat_eq, nat_lt, slice_get, slice_set, option_map, option_and_then, is_some}
use Rattle.std.proofs.lemmas.Bool.{lt-ltb}
use borrow.Author.Tests.{ltb-true, eqb-true, eqb-false}
use Rattle.tk_live.specs.Named.{made_item, live_item, with_item}
use Rattle.tk_live.specs.Items.{EachFrom}

pub some-inj : {X : Type 0} {x y : X} → Some x ≡ Some y → x ≡ y
some-inj e = cc

-- ---- places of one list

pub length-set : {X : Type 0} (xs : List X) (i : ℕ) (x : X) → length (slice_set xs i x) ≡ length xs
length-set [] i x = refl
length-set (y ∷ xs) zero x = refl
length-set (y ∷ xs) (suc i) x = ap (λ n. suc n) (length-set xs i x)

pub set-map : {X Y : Type 0} (f : X → Y) (xs : List X) (i : ℕ) (x : X) → map f (slice_set xs i x) ≡ slice_set (map f xs) i (f x)
set-map f [] i x = refl
set-map f (y ∷ ys) zero x = refl
set-map f (y ∷ ys) (suc i) x = ap (λ zs. f y ∷ zs) (set-map f ys i x)

get-map : {X Y : Type 0} (f : X → Y) (xs : List X) (i : ℕ) → slice_get (map f xs) i ≡ option_map f (slice_get xs i)
get-map f [] i = refl
get-map f (x ∷ xs) zero = refl
get-map f (x ∷ xs) (suc i) = get-map f xs i

-- what stands within a list, and what stands at a place after another was put at it, or at another place
pub within : {X : Type 0} (xs : List X) (i : ℕ) (x : X) → slice_get xs i ≡ Some x → i < length xs
within [] i x e = absurd cc
within (y ∷ ys) zero x e = omega arith
within (y ∷ ys) (suc i) x e = let le = within ys i x e in omega arith

pub get_some : {X : Type 0} (xs : List X) (i : ℕ) → i < length xs → (x : X) × (slice_get xs i ≡ Some x)
get_some [] i lt = absurd (omega (arith, lt))
get_some (x ∷ xs) zero lt = (x, refl)
get_some (x ∷ xs) (suc i) lt = get_some xs i (omega (arith, lt))

-- a place within a list has what is read there
pub get_read : {X : Type 0} (xs : List X) (i : ℕ) (x d : X) → i < length xs → x ≡ get_or xs i d → slice_get xs i ≡ Some x
get_read [] i x d lt e = absurd (omega (arith, lt))
get_read (y ∷ ys) zero x d lt e = ap (λ z. Some z) (sym e)
get_read (y ∷ ys) (suc i) x d lt e = get_read ys i x d (omega (arith, lt)) e

pub get_put : {X : Type 0} (xs : List X) (i : ℕ) (x : X) → i < length xs → slice_get (slice_set xs i x) i ≡ Some x
get_put [] i x lt = absurd (omega (arith, lt))
get_put (y ∷ ys) zero x lt = refl
get_put (y ∷ ys) (suc i) x lt = get_put ys i x (omega (arith, lt))

get_beside : {X : Type 0} (xs : List X) (i j : ℕ) (x : X) → i ≢ j → slice_get (slice_set xs i x) j ≡ slice_get xs j
get_beside [] i j x apart = refl
get_beside (y ∷ ys) zero zero x apart = absurd (apart refl)
get_beside (y ∷ ys) zero (suc j) x apart = refl
get_beside (y ∷ ys) (suc i) zero x apart = refl
get_beside (y ∷ ys) (suc i) (suc j) x apart = get_beside ys i j x (λ e. apart (ap suc e))

-- ---- numbers

-- a number above 0 names what stands at the place before it
pub at_place : {X : Type 0} (n i : ℕ) (xs : List X) → n ≡ i + 1 → made_item n xs ≡ slice_get xs i
at_place n i xs is =
    ap (λ (b : Bool). cond b (slice_get xs (n - 1)) None) (lt-ltb 0 n (omega (arith, is))) ∙ ap (slice_get xs) (let e : n - 1 ≡ i = omega (arith, is) in e)

pub put_place : {X : Type 0} (n i : ℕ) (x : X) (xs : List X) → n ≡ i + 1 → with_item n x xs ≡ slice_set xs i x
put_place n i x xs is = ap (λ k. slice_set xs k x) (let e : n - 1 ≡ i = omega (arith, is) in e)

-- what a number names stands at a place
pub made_place : {X : Type 0} (n : ℕ) (xs : List X) (x : X) → made_item n xs ≡ Some x → (i : ℕ) × (n ≡ i + 1) × (slice_get xs i ≡ Some x)
made_place {X} n xs x e = go (nat_lt 0 n) refl e
  where
    go : (b : Bool) → nat_lt 0 n ≡ b → cond b (slice_get xs (n - 1)) None ≡ Some x → (i : ℕ) × (n ≡ i + 1) × (slice_get xs i ≡ Some x)
    go true is h = let low : 0 < n = ltb-true 0 n is in (n - 1, omega (arith, low), h)
    go false is h = absurd cc

-- a number within a list names something
pub made_some : {X : Type 0} (n : ℕ) (xs : List X) → 1 ≤ n → n ≤ length xs → (x : X) × (made_item n xs ≡ Some x)
made_some n xs low high =
    let there = get_some xs (n - 1) (omega (arith, low, high)) in
    (there.0, at_place n (n - 1) xs (omega (arith, low)) ∙ there.1)

-- what a number of a list names that is told of
pub made_item-map : {X Y : Type 0} (f : X → Y) (n : ℕ) (xs : List X) → made_item n (map f xs) ≡ option_map f (made_item n xs)
made_item-map {X} {Y} f n xs =
    elim (nat_lt 0 n) as (λ b. cond b (slice_get (map f xs) (n - 1)) None ≡ option_map f (cond b (slice_get xs (n - 1)) None)) [ true ↦ get-map f xs (n - 1) | false ↦ refl ]

flat-map : {X Y : Type 0} (f : X → Y) (o : Option (Option X)) → option_and_then (λ p. p) (option_map (option_map f) o) ≡ option_map f (option_and_then (λ p. p) o)
flat-map f None = refl
flat-map f (Some o) = refl

pub live_item-map : {X Y : Type 0} (f : X → Y) (n : ℕ) (xs : List (Option X)) → live_item n (map (option_map f) xs) ≡ option_map f (live_item n xs)
live_item-map f n xs = ap (option_and_then (λ p. p)) (made_item-map (option_map f) n xs) ∙ flat-map f (made_item n xs)

flat_some : {X : Type 0} (o : Option (Option X)) (x : X) → option_and_then (λ p. p) o ≡ Some x → o ≡ Some (Some x)
flat_some None x h = absurd cc
flat_some (Some p) x h = ap (λ q. Some q) h

-- what is live was made
pub live_made : {X : Type 0} (n : ℕ) (xs : List (Option X)) (x : X) → live_item n xs ≡ Some x → made_item n xs ≡ Some (Some x)
live_made n xs x e = flat_some (made_item n xs) x e

-- what is live stands at a place
pub live_place : {X : Type 0} (n : ℕ) (xs : List (Option X)) (x : X) → live_item n xs ≡ Some x → (i : ℕ) × (n ≡ i + 1) × (slice_get xs i ≡ Some (Some x))
live_place n xs x e = made_place n xs (Some x) (live_made n xs x e)

-- ---- a list in which another was put at a place

-- what another number names is as before. Where what stood at the place and what was put there are related as each is to itself,
-- so are what a number names before and after
module _ {X : Type 0} (S : ℕ → X → X → Type 0) (same : (n : ℕ) (x : X) → S n x x) where
  pub made_put : (xs : List X) (i : ℕ) (old new : X) (n : ℕ) (x : X) → slice_get xs i ≡ Some old → S (i + 1) old new → made_item n xs ≡ Some x → (y : X) × (made_item n (slice_set xs i new) ≡ Some y) × S n x y
  made_put xs i old new n x stood related named = go (nat_eq (i + 1) n) refl
    where
      go : (b : Bool) → nat_eq (i + 1) n ≡ b → (y : X) × (made_item n (slice_set xs i new) ≡ Some y) × S n x y
      go true is =
          let at : i + 1 ≡ n = eqb-true (i + 1) n is in
          let now = at_place n i (slice_set xs i new) (sym at) ∙ get_put xs i new (within xs i old stood) in
          let before : old ≡ x = some-inj (sym stood ∙ (sym (at_place n i xs (sym at)) ∙ named)) in
          (new, now, subst (λ m. S m x new) at (subst (λ z. S (i + 1) z new) before related))
      go false is =
          let at = made_place n xs x named in
          let apart : i ≢ at.0 = λ e. absurd (eqb-false (i + 1) n is (ap (λ k. k + 1) e ∙ sym at.1)) in
          (x, at_place n at.0 (slice_set xs i new) at.1 ∙ (get_beside xs i at.0 new apart ∙ at.2), same n x)

-- what is live where a number is spent was live before, and is of another number
pub live_spent : {X : Type 0} (w : ℕ) (xs : List (Option X)) (v : ℕ) (x y : X) → live_item w xs ≡ Some y → live_item v (with_item w None xs) ≡ Some x → (live_item v xs ≡ Some x) × (v ≢ w)
live_spent {X} w xs v x y live now =
    let at = live_place w xs y live in
    let now_at = live_place v (with_item w None xs) x now in
    let set : with_item w None xs ≡ slice_set xs at.0 None = put_place w at.0 None xs at.1 in
    let stands : slice_get (slice_set xs at.0 None) now_at.0 ≡ Some (Some x) = ap (λ l. slice_get l now_at.0) (sym set) ∙ now_at.2 in
    let other : at.0 ≢ now_at.0 = λ e. let gone : slice_get (slice_set xs at.0 None) now_at.0 ≡ Some None = ap (slice_get (slice_set xs at.0 None)) (sym e) ∙ get_put xs at.0 None (within xs at.0 (Some y) at.2) in absurd cc in
    let there : slice_get xs now_at.0 ≡ Some (Some x) = sym (get_beside xs at.0 now_at.0 None other) ∙ stands in
    (ap (option_and_then (λ p. p)) (at_place v now_at.0 xs now_at.1 ∙ there), λ e. other (let k : at.0 ≡ now_at.0 = omega (arith, at.1, now_at.1, e) in k))

get_more : {X : Type 0} (xs : List X) (x : X) (i : ℕ) (y : X) → slice_get (xs ++ x ∷ []) i ≡ Some y → (slice_get xs i ≡ Some y) ⊎ ((i ≡ length xs) × (y ≡ x))
get_more [] x zero y e = inr (refl, let s : y ≡ x = cc in s)
get_more [] x (suc i) y e = absurd cc
get_more (z ∷ xs) x zero y e = inl e
get_more (z ∷ xs) x (suc i) y e = go (get_more xs x i y e)
  where
    go : (slice_get xs i ≡ Some y) ⊎ ((i ≡ length xs) × (y ≡ x)) → (slice_get xs i ≡ Some y) ⊎ ((suc i ≡ suc (length xs)) × (y ≡ x))
    go (inl h) = inl h
    go (inr h) = inr (ap suc h.0, h.1)

get_still : {X : Type 0} (xs : List X) (x : X) (i : ℕ) (y : X) → slice_get xs i ≡ Some y → slice_get (xs ++ x ∷ []) i ≡ Some y
get_still [] x i y e = absurd cc
get_still (z ∷ xs) x zero y e = e
get_still (z ∷ xs) x (suc i) y e = get_still xs x i y e

get_last : {X : Type 0} (xs : List X) (x : X) → slice_get (xs ++ x ∷ []) (length xs) ≡ Some x
get_last [] x = refl
get_last (y ∷ xs) x = get_last xs x

-- what a number names of a list with one more at its end
pub made_more : {X : Type 0} (xs : List X) (x : X) (n : ℕ) (y : X) → made_item n (xs ++ x ∷ []) ≡ Some y → (made_item n xs ≡ Some y) ⊎ ((n ≡ length xs + 1) × (y ≡ x))
made_more {X} xs x n y named = go (get_more xs x at.0 y at.2)
  where
    at : (i : ℕ) × (n ≡ i + 1) × (slice_get (xs ++ x ∷ []) i ≡ Some y)
    at = made_place n (xs ++ x ∷ []) y named

    go : (slice_get xs at.0 ≡ Some y) ⊎ ((at.0 ≡ length xs) × (y ≡ x)) → (made_item n xs ≡ Some y) ⊎ ((n ≡ length xs + 1) × (y ≡ x))
    go (inl h) = inl (at_place n at.0 xs at.1 ∙ h)
    go (inr h) = inr (at.1 ∙ ap (λ k. k + 1) h.0, h.1)

pub made_still : {X : Type 0} (xs : List X) (x : X) (n : ℕ) (y : X) → made_item n xs ≡ Some y → made_item n (xs ++ x ∷ []) ≡ Some y
made_still xs x n y named =
    let at = made_place n xs y named in
    at_place n at.0 (xs ++ x ∷ []) at.1 ∙ get_still xs x at.0 y at.2

pub made_last : {X : Type 0} (xs : List X) (x : X) (n : ℕ) → n ≡ length xs + 1 → made_item n (xs ++ x ∷ []) ≡ Some x
made_last xs x n is = at_place n (length xs) (xs ++ x ∷ []) is ∙ get_last xs x

pub live_more : {X : Type 0} (xs : List (Option X)) (x : X) (n : ℕ) (y : X) → live_item n (xs ++ Some x ∷ []) ≡ Some y → (live_item n xs ≡ Some y) ⊎ ((n ≡ length xs + 1) × (y ≡ x))
live_more {X} xs x n y live = go (made_more xs (Some x) n (Some y) (live_made n (xs ++ Some x ∷ []) y live))
  where
    go : (made_item n xs ≡ Some (Some y)) ⊎ ((n ≡ length xs + 1) × (Some y ≡ Some x)) → (live_item n xs ≡ Some y) ⊎ ((n ≡ length xs + 1) × (y ≡ x))
    go (inl h) = inl (ap (option_and_then (λ p. p)) h)
    go (inr h) = inr (h.0, some-inj h.1)

-- ---- two lists that are related place by place

module _ {X Y : Type 0} (R : ℕ → X → Y → Type 0) where
  pub each_length : (n : ℕ) (xs : List X) (ys : List Y) → EachFrom R n xs ys → length xs ≡ length ys
  each_length n [] [] each = refl
  each_length n [] (y ∷ ys) each = absurd each
  each_length n (x ∷ xs) [] each = absurd each
  each_length n (x ∷ xs) (y ∷ ys) each = ap suc (each_length (n + 1) xs ys each.1)

  each_get : (n : ℕ) (xs : List X) (ys : List Y) (i : ℕ) (y : Y) → EachFrom R n xs ys → slice_get ys i ≡ Some y → (x : X) × (slice_get xs i ≡ Some x) × R (n + i) x y
  each_get n [] [] i y each at = absurd cc
  each_get n [] (z ∷ ys) i y each at = absurd each
  each_get n (x ∷ xs) [] i y each at = absurd each
  each_get n (x ∷ xs) (z ∷ ys) zero y each at =
      let here : z ≡ y = some-inj at in
      (x, refl, subst (λ m. R m x y) (let e : n ≡ n + 0 = omega arith in e) (subst (λ w. R n x w) here each.0))
  each_get n (x ∷ xs) (z ∷ ys) (suc i) y each at =
      let there = each_get (n + 1) xs ys i y each.1 at in
      (there.0, there.1, subst (λ m. R m there.0 y) (let e : n + 1 + i ≡ n + suc i = omega arith in e) there.2)

  each_put : (n : ℕ) (xs : List X) (ys : List Y) (i : ℕ) (x : X) (y : Y) → EachFrom R n xs ys → R (n + i) x y → EachFrom R n (slice_set xs i x) (slice_set ys i y)
  each_put n [] [] i x y each r = tt
  each_put n [] (z ∷ ys) i x y each r = absurd each
  each_put n (w ∷ xs) [] i x y each r = absurd each
  each_put n (w ∷ xs) (z ∷ ys) zero x y each r = (subst (λ m. R m x y) (let e : n + 0 ≡ n = omega arith in e) r, each.1)
  each_put n (w ∷ xs) (z ∷ ys) (suc i) x y each r = (each.0, each_put (n + 1) xs ys i x y each.1 (subst (λ m. R m x y) (let e : n + suc i ≡ n + 1 + i = omega arith in e) r))

  each_push : (n : ℕ) (xs : List X) (ys : List Y) (x : X) (y : Y) → EachFrom R n xs ys → R (n + length xs) x y → EachFrom R n (xs ++ x ∷ []) (ys ++ y ∷ [])
  each_push n [] [] x y each r = (subst (λ m. R m x y) (let e : n + 0 ≡ n = omega arith in e) r, tt)
  each_push n [] (z ∷ ys) x y each r = absurd each
  each_push n (w ∷ xs) [] x y each r = absurd each
  each_push n (w ∷ xs) (z ∷ ys) x y each r = (each.0, each_push (n + 1) xs ys x y each.1 (subst (λ m. R m x y) (let e : n + length (w ∷ xs) ≡ n + 1 + length xs = omega arith in e) r))

  -- what a number names in the second list, it names in the first, and the two are related
  pub each_made : (xs : List X) (ys : List Y) (n : ℕ) (y : Y) → EachFrom R 1 xs ys → made_item n ys ≡ Some y → (x : X) × (made_item n xs ≡ Some x) × R n x y
  each_made xs ys n y each named =
      let at = made_place n ys y named in
      let there = each_get 1 xs ys at.0 y each at.2 in
      (there.0, at_place n at.0 xs at.1 ∙ there.1, subst (λ m. R m there.0 y) (let e : 1 + at.0 ≡ n = omega (arith, at.1) in e) there.2)

  -- so with the lists in the other order
  pub each_told : (xs : List X) (ys : List Y) (n : ℕ) (x : X) → EachFrom R 1 xs ys → made_item n xs ≡ Some x → (y : Y) × (made_item n ys ≡ Some y) × R n x y
  each_told xs ys n x each named =
      let at = made_place n xs x named in
      let below : at.0 < length ys = omega (arith, within xs at.0 x at.2, each_length 1 xs ys each) in
      let there = get_some ys at.0 below in
      let stands = at_place n at.0 ys at.1 ∙ there.1 in
      let back = each_made xs ys n there.0 each stands in
      (there.0, stands, subst (λ z. R n z there.0) (let e : back.0 ≡ x = some-inj (sym back.1 ∙ named) in e) back.2)

  -- a number that names nothing in the second list names nothing in the first
  pub each_unmade : (xs : List X) (ys : List Y) (n : ℕ) → EachFrom R 1 xs ys → made_item n ys ≡ None → made_item n xs ≡ None
  each_unmade xs ys n each none = go (made_item n xs) refl
    where
      go : (o : Option X) → made_item n xs ≡ o → o ≡ None
      go None is = refl
      go (Some x) is = let there = (each_told xs ys n x each is).1 in absurd cc

  -- so one names something in both, or in none
  pub each_there : (xs : List X) (ys : List Y) (n : ℕ) → EachFrom R 1 xs ys → is_some (made_item n xs) ≡ is_some (made_item n ys)
  each_there xs ys n each = go (made_item n ys) refl
    where
      go : (o : Option Y) → made_item n ys ≡ o → is_some (made_item n xs) ≡ is_some o
      go None is = ap is_some (each_unmade xs ys n each is)
      go (Some y) is = ap is_some (each_made xs ys n y each is).1

  -- two that are related are put at a number of both
  pub each_with : (xs : List X) (ys : List Y) (n i : ℕ) (x : X) (y : Y) → EachFrom R 1 xs ys → n ≡ i + 1 → R n x y → EachFrom R 1 (with_item n x xs) (slice_set ys i y)
  each_with xs ys n i x y each is r =
      subst (λ l. EachFrom R 1 l (slice_set ys i y)) (sym (put_place n i x xs is)) (each_put 1 xs ys i x y each (subst (λ m. R m x y) (let e : n ≡ 1 + i = omega (arith, is) in e) r))

  -- and more at the end of both, of the number after all others
  pub each_more : (xs : List X) (ys : List Y) (x : X) (y : Y) → EachFrom R 1 xs ys → R (length xs + 1) x y → EachFrom R 1 (xs ++ x ∷ []) (ys ++ y ∷ [])
  each_more xs ys x y each r = each_push 1 xs ys x y each (subst (λ m. R m x y) (let e : length xs + 1 ≡ 1 + length xs = omega arith in e) r)

-- ---- what is read at a place

-- what was found at a number is what is read at its place
pub item_read : {X : Type 0} (P : X → Type 0) (xs : List X) (n i : ℕ) (x : X) → (n ≡ i + 1) × (i < length xs) × ((y : X) × (made_item n xs ≡ Some y) × P y) → x ≡ get_or xs i x → (slice_get xs i ≡ Some x) × P x
item_read P xs n i x found read =
    let stood : slice_get xs i ≡ Some x = get_read xs i x x found.1 read in
    let same : found.2.0 ≡ x = some-inj (sym found.2.1 ∙ (at_place n i xs found.0 ∙ stood)) in
    (stood, subst P same found.2.2)
