-- Sums over lists.
use Rattle.std.proofs.Common.{◌≡◌, ℕ, suc, ◌+◌, ◌*◌, ◌≤◌, List, [], ◌∷◌, length, Bool, true, false, cond, refl, ap, arith}
use Rattle.std.specs.Prelude.{map, filter, sum_by}
use Rattle.std.specs.List.{AllByRecursion, items_where_true, slice_split, onto_first}
use Rattle.std.proofs.lemmas.List.Sums.{sum_by-cons}

module _ {A : Type 0} (f : A → ℕ) where
  -- some of the elements
  pub sum_filter : (p : A → Bool) (xs : List A) → sum_by f (filter p xs) ≤ sum_by f xs
  sum_filter p [] = omega arith
  sum_filter p (x ∷ xs) = by (p x) (sum_filter p xs)
    where
      by : (b : Bool) → sum_by f (filter p xs) ≤ sum_by f xs → sum_by f (cond b (x ∷ filter p xs) (filter p xs)) ≤ sum_by f (x ∷ xs)
      by true le = omega (arith, sum_by-cons f x xs, sum_by-cons f x (filter p xs), le)
      by false le = omega (arith, sum_by-cons f x xs, le)

  pub sum_where : (bs : List Bool) (xs : List A) → sum_by f (items_where_true bs xs) ≤ sum_by f xs
  sum_where [] xs = omega arith
  sum_where (b ∷ bs) [] = omega arith
  sum_where (true ∷ bs) (x ∷ xs) = omega (arith, sum_by-cons f x xs, sum_by-cons f x (items_where_true bs xs), sum_where bs xs)
  sum_where (false ∷ bs) (x ∷ xs) = omega (arith, sum_by-cons f x xs, sum_where bs xs)

  -- a sum of elements that are at least so much each
  pub sum_many : (least : ℕ) → ((x : A) → least ≤ f x) → (xs : List A) → least * length xs ≤ sum_by f xs
  sum_many least each [] = omega arith
  sum_many least each (x ∷ xs) = omega (arith, sum_by-cons f x xs, each x, sum_many least each xs)

  module _ (g : A → ℕ) where
    pub sum_below : (xs : List A) → AllByRecursion (λ x. f x ≤ g x) xs → sum_by f xs ≤ sum_by g xs
    sum_below [] all = omega arith
    sum_below (x ∷ xs) all = omega (arith, sum_by-cons f x xs, sum_by-cons g x xs, all.0, sum_below xs all.1)

    pub sum_under : ((x : A) → f x ≤ g x) → (xs : List A) → sum_by f xs ≤ sum_by g xs
    sum_under each [] = omega arith
    sum_under each (x ∷ xs) = omega (arith, sum_by-cons f x xs, sum_by-cons g x xs, each x, sum_under each xs)

    pub sum_both : (xs : List A) → sum_by (λ x. f x + g x) xs ≡ sum_by f xs + sum_by g xs
    sum_both [] = refl
    sum_both (x ∷ xs) = omega (arith, sum_by-cons f x xs, sum_by-cons g x xs, sum_by-cons (λ y. f y + g y) x xs, sum_both xs)

pub sum_map : {A B : Type 0} (f : B → ℕ) (g : A → B) (xs : List A) → sum_by f (map g xs) ≡ sum_by (λ x. f (g x)) xs
sum_map f g [] = refl
sum_map f g (x ∷ xs) = omega (arith, sum_by-cons f (g x) (map g xs), sum_by-cons (λ y. f (g y)) x xs, sum_map f g xs)

pub sum_times : {A : Type 0} (n : ℕ) (f : A → ℕ) (xs : List A) → sum_by (λ x. n * f x) xs ≡ n * sum_by f xs
sum_times n f [] = omega arith
sum_times n f (x ∷ xs) = omega (arith, sum_by-cons (λ y. n * f y) x xs, ap (λ m. n * m) (sum_by-cons f x xs), sum_times n f xs)

-- ---- pieces of a list

-- a piece with what ends it
abbrev pub long : {X : Type 0} → List X → ℕ
long piece = length piece + 1

module _ {X : Type 0} (p : X → Bool) where
  longer : (x : X) (pieces : List (List X)) (n : ℕ) → sum_by long pieces ≡ n + 1 → sum_by long (onto_first x pieces) ≡ suc n + 1
  longer x [] n is = absurd (omega (arith, is))
  longer x (piece ∷ pieces) n is = omega (arith, sum_by-cons long piece pieces, sum_by-cons long (x ∷ piece) pieces, is)

  -- the lengths of a list's pieces, each with what ends it
  pub pieces_long : (xs : List X) → sum_by long (slice_split p xs) ≡ length xs + 1
  pieces_long [] = refl
  pieces_long (x ∷ xs) = by (p x) (pieces_long xs)
    where
      by : (b : Bool) → sum_by long (slice_split p xs) ≡ length xs + 1 → sum_by long (cond b ([] ∷ slice_split p xs) (onto_first x (slice_split p xs))) ≡ length (x ∷ xs) + 1
      by true is = omega (arith, sum_by-cons long [] (slice_split p xs), is)
      by false is = omega (arith, longer x (slice_split p xs) (length xs) is)
