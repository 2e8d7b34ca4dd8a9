-- Loops over the places of a list, one place more.
use Rattle.std.proofs.Common.{◌≡◌, ℕ, zero, suc, ◌+◌, List, [], ◌∷◌, ◌++◌, take, slice_get, Bool, true, false, ◌||◌, Option, Some, None, refl, ap, ◌∙◌, append-nil, add-one}
use Rattle.std.specs.Prelude.{fold}
use Rattle.std.specs.List.{list_any}
use Rattle.std.specs.Option.{option_map_or}
use Rattle.std.proofs.lemmas.Bool.{false≢true}
use Rattle.std.proofs.lemmas.List.Folds.{list_any-append}
use Rattle.std.proofs.lemmas.List.Sums.{fold-append}

-- the items up to a place, and the one that stands there, if one does
taken_more : {A : Type 0} (xs : List A) (i : ℕ) → take (suc i) xs ≡ take i xs ++ option_map_or (λ (x : A). x ∷ []) (slice_get xs i) []
taken_more [] zero = refl
taken_more [] (suc i) = refl
taken_more (x ∷ xs) zero = refl
taken_more (x ∷ xs) (suc i) = ap (λ ys. x ∷ ys) (taken_more xs i)

-- what is folded up to a place, and the item that stands there, if one does
pub folded_more : {A B : Type 0} (f : B → A → B) (b : B) (xs : List A) (i : ℕ)
    → fold f b (take (i + 1) xs) ≡ option_map_or (λ x. f (fold f b (take i xs)) x) (slice_get xs i) (fold f b (take i xs))
folded_more {A} {B} f b xs i = rw add-one (ap (fold f b) (taken_more xs i) ∙ by (slice_get xs i))
  where
    by : (o : Option A) → fold f b (take i xs ++ option_map_or (λ (x : A). x ∷ []) o []) ≡ option_map_or (λ x. f (fold f b (take i xs)) x) o (fold f b (take i xs))
    by None = ap (fold f b) (append-nil (take i xs))
    by (Some x) = fold-append f b (take i xs) (x ∷ [])

-- where none passes up to a place, and the item that stands there, if one does, doesn't
pub none_more : {A : Type 0} (test : A → Bool) (xs : List A) (i : ℕ) → list_any test (take i xs) ≡ false → option_map_or test (slice_get xs i) false ≡ false
    → list_any test (take (i + 1) xs) ≡ false
none_more {A} test xs i none not = rw add-one (ap (list_any test) (taken_more xs i) ∙ list_any-append test (take i xs) _ ∙ ap (λ b. b || list_any test (option_map_or (λ (x : A). x ∷ []) (slice_get xs i) [])) none ∙ by (slice_get xs i) not)
  where
    by : (o : Option A) → option_map_or test o false ≡ false → list_any test (option_map_or (λ (x : A). x ∷ []) o []) ≡ false
    by None is = refl
    by (Some x) is = ap (λ b. b || false) is

-- one passes that stands at a place
pub one_passes : {A : Type 0} (test : A → Bool) (xs : List A) (i : ℕ) → option_map_or test (slice_get xs i) false ≡ true → list_any test xs ≡ true
one_passes test [] i is = absurd (false≢true is)
one_passes test (x ∷ xs) zero is = ap (λ b. b || list_any test xs) is
one_passes {A} test (x ∷ xs) (suc i) is = ap (λ b. test x || b) (one_passes test xs i is) ∙ or_true (test x)
  where
    or_true : (b : Bool) → (b || true) ≡ true
    or_true true = refl
    or_true false = refl
