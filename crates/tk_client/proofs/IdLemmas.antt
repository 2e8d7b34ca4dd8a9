-- Ids of which none stands twice, and what is found by an id.
use Rattle.std.proofs.Common.{◌≡◌, ℕ, zero, suc, ◌+◌, ◌<◌, ◌≤◌, List, [], ◌∷◌, ◌++◌, length, get_or, take, drop, Bool, true, false, cond, nat_eq, nat_lt, Option, Some, None, slice_get, refl, ap, ap₂, sym, ◌∙◌, arith, add-one}
use Rattle.std.specs.Prelude.{map, position, is_some, not, ◌||◌}
use Rattle.std.specs.List.{list_any, IsDistinct, AllByRecursion, position_or_len}
use Rattle.std.proofs.lemmas.Bool.{or_parts, eqb-true, eq-eqb, lt-ltb, le-ltb}
use borrow.Author.Tests.{ltb-true}
use Rattle.std.proofs.lemmas.List.Folds.{list_any-append}
use Rattle.std.proofs.lemmas.List.Quantifiers.{position-Some}
use Rattle.std.proofs.lemmas.Option.{slice_get_read}
use Rattle.tk_stream.specs.Tables.{item_with}
use Rattle.tk_client.specs.Taking.{has_twice, has_id}

pub itself : (n : ℕ) → nat_eq n n ≡ true
itself n = eq-eqb n n refl

pub flipped : (a b : ℕ) → nat_eq a b ≡ false → nat_eq b a ≡ false
flipped a b h = by (nat_eq b a) refl
  where
    by : (t : Bool) → nat_eq b a ≡ t → t ≡ false
    by true e = sym (eq-eqb a b (sym (eqb-true b a e))) ∙ h
    by false e = refl

pub turned : (a b : ℕ) → nat_eq a b ≡ nat_eq b a
turned a b = by (nat_eq a b) refl
  where
    by : (t : Bool) → nat_eq a b ≡ t → nat_eq a b ≡ nat_eq b a
    by true e = e ∙ sym (eq-eqb b a (sym (eqb-true a b e)))
    by false e = e ∙ sym (flipped a b e)

-- a list of no length
pub no-ids : {A : Type 0} (ids : List A) → nat_eq (length ids) 0 ≡ true → ids ≡ []
no-ids [] e = refl
no-ids (n ∷ ns) e = let none : length (n ∷ ns) ≡ 0 = eqb-true (length (n ∷ ns)) 0 e in absurd (omega arith)

-- ---- ids one after the other

grouped : (a e t b : Bool) → ((a || (e || false)) || (t || b)) ≡ ((a || t) || (e || b))
grouped true e t b = refl
grouped false true true b = refl
grouped false true false b = refl
grouped false false true b = refl
grouped false false false b = refl

twice-push : (xs : List ℕ) (x : ℕ) → has_twice (xs ++ x ∷ []) ≡ (has_twice xs || list_any (λ m. nat_eq x m) xs)
twice-push [] x = refl
twice-push (y ∷ ys) x =
    ap₂ (λ a b. a || b) (list_any-append (λ m. nat_eq y m) ys (x ∷ [])) (twice-push ys x)
    ∙ ap (λ e. (list_any (λ m. nat_eq y m) ys || (e || false)) || (has_twice ys || list_any (λ m. nat_eq x m) ys)) (turned y x)
    ∙ grouped (list_any (λ m. nat_eq y m) ys) (nat_eq x y) (has_twice ys) (list_any (λ m. nat_eq x m) ys)

twice-front : (xs ys : List ℕ) → has_twice xs ≡ true → has_twice (xs ++ ys) ≡ true
twice-front [] ys h = absurd (cc)
twice-front (x ∷ xs) ys h = by (list_any (λ m. nat_eq x m) xs) refl h (twice-front xs ys)
  where
    both : (b c : Bool) → c ≡ true → (b || c) ≡ true
    both true c f = refl
    both false c f = f

    by : (b : Bool) → list_any (λ m. nat_eq x m) xs ≡ b → (b || has_twice xs) ≡ true → (has_twice xs ≡ true → has_twice (xs ++ ys) ≡ true) → has_twice ((x ∷ xs) ++ ys) ≡ true
    by true e g rest = ap (λ b. b || has_twice (xs ++ ys)) (list_any-append (λ m. nat_eq x m) xs ys ∙ ap (λ b. b || list_any (λ m. nat_eq x m) ys) e)
    by false e g rest = both (list_any (λ m. nat_eq x m) (xs ++ ys)) (has_twice (xs ++ ys)) (rest g)

split-at : (xs : List ℕ) (i x : ℕ) → i < length xs → x ≡ get_or xs i 0 → xs ≡ (take i xs ++ x ∷ []) ++ drop (suc i) xs
split-at [] i x h e = absurd (omega arith)
split-at (y ∷ xs) zero x h e = ap (λ z. z ∷ xs) (sym e)
split-at (y ∷ xs) (suc i) x h e = ap (λ ys. y ∷ ys) (split-at xs i x (omega arith) e)

take-last : (xs : List ℕ) (i x : ℕ) → i < length xs → x ≡ get_or xs i 0 → take (suc i) xs ≡ take i xs ++ x ∷ []
take-last [] i x h e = absurd (omega arith)
take-last (y ∷ xs) zero x h e = ap (λ z. z ∷ []) (sym e)
take-last (y ∷ xs) (suc i) x h e = ap (λ ys. y ∷ ys) (take-last xs i x (omega arith) e)

-- one more id that isn't there
pub once-next : (ids : List ℕ) (i x : ℕ) → i < length ids → x ≡ get_or ids i 0 → has_twice (take i ids) ≡ false → list_any (λ m. nat_eq x m) (take i ids) ≡ false
    → (take i ids ++ x ∷ [] ≡ take (i + 1) ids) × (has_twice (take (i + 1) ids) ≡ false)
once-next ids i x h e once away =
    let step : take (i + 1) ids ≡ take i ids ++ x ∷ [] = ap (λ n. take n ids) (add-one i) ∙ take-last ids i x h e in
    (sym step, ap has_twice step ∙ twice-push (take i ids) x ∙ ap₂ (λ a b. a || b) once away)

-- an id that is there
pub twice-here : (ids : List ℕ) (i x : ℕ) → i < length ids → x ≡ get_or ids i 0 → list_any (λ m. nat_eq x m) (take i ids) ≡ true → has_twice ids ≡ true
twice-here ids i x h e there =
    ap has_twice (split-at ids i x h e)
    ∙ twice-front (take i ids ++ x ∷ []) (drop (suc i) ids) (twice-push (take i ids) x ∙ ap (λ b. has_twice (take i ids) || b) there ∙ either (has_twice (take i ids)))
  where
    either : (b : Bool) → (b || true) ≡ true
    either true = refl
    either false = refl

-- ids of which none stands twice are distinct
pub distinct-once : (ids : List ℕ) → has_twice ids ≡ false → IsDistinct nat_eq ids
unfolding IsDistinct
distinct-once [] h = tt
distinct-once (x ∷ xs) h =
    let p = or_parts (list_any (λ m. nat_eq x m) xs) (has_twice xs) h in
    (none xs p.0, distinct-once xs p.1)
  where
    none : (ys : List ℕ) → list_any (λ m. nat_eq x m) ys ≡ false → AllByRecursion (λ y. nat_eq x y ≡ false) ys
    none [] g = tt
    none (y ∷ ys) g = let q = or_parts (nat_eq x y) (list_any (λ m. nat_eq x m) ys) g in (q.0, none ys q.1)

pub was_there : (b c : Bool) → b ≡ not c → b ≡ false → c ≡ true
was_there b true e f = refl
was_there b false e f = sym f ∙ e

pub was_away : (b c : Bool) → b ≡ not c → b ≡ true → c ≡ false
was_away b true e f = sym (sym e ∙ f)
was_away b false e f = refl

shifted : (m n : ℕ) → nat_lt (1 + m) (suc n) ≡ nat_lt m n
shifted m n = by (nat_lt m n) refl
  where
    by : (b : Bool) → nat_lt m n ≡ b → nat_lt (1 + m) (suc n) ≡ b
    by true e = lt-ltb (1 + m) (suc n) (let l : m < n = ltb-true m n e in omega arith)
    by false e = le-ltb (1 + m) (suc n) (let l : n ≤ m = grind arith in omega arith)

-- ---- what is found by an id

module _ {X : Type 0} (f : X → ℕ) where
  pub any-has : (id : ℕ) (xs : List X) → list_any (λ n. nat_eq id n) (map f xs) ≡ has_id f id xs
  any-has id [] = refl
  any-has id (x ∷ xs) = by (nat_eq id (f x)) (any-has id xs)
    where
      by : (b : Bool) → list_any (λ n. nat_eq id n) (map f xs) ≡ has_id f id xs → (b || list_any (λ n. nat_eq id n) (map f xs)) ≡ is_some (cond b (Some x) (item_with f id xs))
      by true e = refl
      by false e = e

  abbrev place : ℕ → List X → ℕ
  place id xs = position_or_len (λ n. nat_eq id n) (map f xs)

  at-place : (id : ℕ) (xs : List X) → slice_get xs (place id xs) ≡ item_with f id xs
  at-place id [] = refl
  at-place id (x ∷ xs) = by (nat_eq id (f x)) (at-place id xs)
    where
      by : (b : Bool) → slice_get xs (place id xs) ≡ item_with f id xs → slice_get (x ∷ xs) (cond (not b) (1 + place id xs) 0) ≡ cond b (Some x) (item_with f id xs)
      by true e = refl
      by false e = let k : 1 + place id xs ≡ suc (place id xs) = omega arith in rw k e

  -- what stands at the place of an id
  pub found-at : (id : ℕ) (xs : List X) (i : ℕ) → Some i ≡ position (λ n. nat_eq id n) (map f xs) → (i ≡ place id xs) × (slice_get xs i ≡ item_with f id xs)
  found-at id xs i e =
      let same : i ≡ place id xs = by (nat_lt (place id xs) (length (map f xs))) e in
      (same, ap (slice_get xs) same ∙ at-place id xs)
    where
      by : (b : Bool) → Some i ≡ cond b (Some (place id xs)) None → i ≡ place id xs
      by true g = same_some g
        where
          same_some : Some i ≡ Some (place id xs) → i ≡ place id xs
          same_some g = cc
      by false g = absurd (cc)

  pub none-at : (id : ℕ) (xs : List X) → None ≡ position (λ n. nat_eq id n) (map f xs) → has_id f id xs ≡ false
  none-at id xs e = by (has_id f id xs) refl
    where
      by : (b : Bool) → has_id f id xs ≡ b → b ≡ false
      by true h = absurd (never xs h e)
        where
          within : (ys : List X) → has_id f id ys ≡ true → place id ys < length (map f ys)
          within [] g = absurd (cc)
          within (y ∷ ys) g = step (nat_eq id (f y)) g (within ys)
            where
              step : (c : Bool) → is_some (cond c (Some y) (item_with f id ys)) ≡ true → (has_id f id ys ≡ true → place id ys < length (map f ys)) → cond (not c) (1 + place id ys) 0 < suc (length (map f ys))
              step true g k = omega arith
              step false g k = let l : place id ys < length (map f ys) = k g in omega arith

          never : (ys : List X) → has_id f id ys ≡ true → None ≡ position (λ n. nat_eq id n) (map f ys) → ⊥
          never ys g k = let l = within ys g in grind arith
      by false h = refl

  -- each of distinct ones is found by its own id
  pub own : (xs : List X) → IsDistinct nat_eq (map f xs) → AllByRecursion (λ x. item_with f (f x) xs ≡ Some x) xs
  unfolding IsDistinct
  own [] d = tt
  own (x ∷ xs) d = (ap (λ b. cond b (Some x) (item_with f (f x) xs)) (itself (f x)), each_later xs (λ y. item_with f (f y) xs ≡ Some y) (λ y e n. ap (λ b. cond b (Some x) (item_with f (f y) xs)) (flipped (f x) (f y) n) ∙ e) (own xs d.1) d.0)
    where
      each_later : (ys : List X) (P : X → Type 0) → ((y : X) → P y → nat_eq (f x) (f y) ≡ false → item_with f (f y) (x ∷ xs) ≡ Some y) → AllByRecursion P ys
          → AllByRecursion (λ n. nat_eq (f x) n ≡ false) (map f ys) → AllByRecursion (λ y. item_with f (f y) (x ∷ xs) ≡ Some y) ys
      each_later [] P h all away = tt
      each_later (y ∷ ys) P h all away = (h y all.0 away.0, each_later ys P h all.1 away.1)

  -- what is found has the id
  pub has-the-id : (id : ℕ) (xs : List X) (x : X) → item_with f id xs ≡ Some x → id ≡ f x
  has-the-id id [] x e = absurd (cc)
  has-the-id id (y ∷ ys) x e = by (nat_eq id (f y)) refl e (has-the-id id ys x)
    where
      by : (b : Bool) → nat_eq id (f y) ≡ b → cond b (Some y) (item_with f id ys) ≡ Some x → (item_with f id ys ≡ Some x → id ≡ f x) → id ≡ f x
      by true is g rest = let same : y ≡ x = (cc) in eqb-true id (f y) is ∙ ap f same
      by false is g rest = rest g

  -- the element at the place of an id
  pub found-there : (ids : List ℕ) (id : ℕ) (xs : List X) (i : ℕ) (x : X) → ids ≡ map f xs → Some i ≡ position (λ n. nat_eq id n) ids → x ≡ get_or xs i x → Some x ≡ item_with f id xs
  found-there ids id xs i x same at is =
      let here : Some i ≡ position (λ n. nat_eq id n) (map f xs) = at ∙ ap (position (λ n. nat_eq id n)) same in
      let lt : i < length (map f xs) = (position-Some (λ n. nat_eq id n) (map f xs) i 0 (sym here)).0 in
      sym (slice_get_read xs (length xs) i x refl (omega (arith, map_length xs)) is) ∙ (found-at id xs i here).1
    where
      map_length : (ys : List X) → length (map f ys) ≡ length ys
      map_length [] = refl
      map_length (y ∷ ys) = ap suc (map_length ys)

  pub none-found : (ids : List ℕ) (id : ℕ) (xs : List X) → ids ≡ map f xs → None ≡ position (λ n. nat_eq id n) ids → None ≡ item_with f id xs
  none-found ids id xs same at = by (item_with f id xs) (none-at id xs (at ∙ ap (position (λ n. nat_eq id n)) same))
    where
      by : (o : Option X) → is_some o ≡ false → None ≡ o
      by (Some x) e = absurd (cc)
      by None e = refl

  lt-has : (id : ℕ) (xs : List X) → nat_lt (place id xs) (length (map f xs)) ≡ has_id f id xs
  lt-has id [] = refl
  lt-has id (x ∷ xs) = by (nat_eq id (f x)) (lt-has id xs)
    where
      by : (b : Bool) → nat_lt (place id xs) (length (map f xs)) ≡ has_id f id xs → nat_lt (cond (not b) (1 + place id xs) 0) (suc (length (map f xs))) ≡ is_some (cond b (Some x) (item_with f id xs))
      by true e = lt-ltb 0 (suc (length (map f xs))) (omega arith)
      by false e = shifted (place id xs) (length (map f xs)) ∙ e

  -- an id has a place where it is there
  pub place-has : (id : ℕ) (xs : List X) → is_some (position (λ n. nat_eq id n) (map f xs)) ≡ has_id f id xs
  place-has id xs = by (nat_lt (place id xs) (length (map f xs))) ∙ lt-has id xs
    where
      by : (b : Bool) → is_some (cond b (Some (place id xs)) None) ≡ b
      by true = refl
      by false = refl
