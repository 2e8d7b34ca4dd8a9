-- Loops over lists, one item more.
use Rattle.std.proofs.Common.{◌≡◌, ℕ, ◌+◌, List, [], ◌∷◌, ◌++◌, length, take, map, slice_get, Option, Some, None, ap, ◌∙◌, append-nil, add-one}
use Rattle.std.specs.Prelude.{fold}
use Rattle.std.specs.Option.{option_map_or}
use Rattle.std.proofs.lemmas.List.{length-map, length-take, map-append, take_min}
use Rattle.std.proofs.lemmas.List.Sums.{fold-append}
use Rattle.tk_series.proofs.SeriesLemmas.{taken_more}

-- what is folded up to a place, and the item that stands there, if one does
pub folded_more : {A B : Type 0} (f : B → A → B) (b : B) (xs : List A) (i : ℕ)
    → fold f b (take (i + 1) xs) ≡ option_map_or (λ x. f (fold f b (take i xs)) x) (slice_get xs i) (fold f b (take i xs))
folded_more {A} {B} f b xs i = rw add-one (ap (fold f b) (taken_more xs i) ∙ by (slice_get xs i))
  where
    by : (o : Option A) → fold f b (take i xs ++ option_map_or (λ (x : A). x ∷ []) o []) ≡ option_map_or (λ x. f (fold f b (take i xs)) x) o (fold f b (take i xs))
    by None = ap (fold f b) (append-nil (take i xs))
    by (Some x) = fold-append f b (take i xs) (x ∷ [])

-- what is made of the items up to a place, and of the one that stands there
pub mapped_next : {A B : Type 0} (f : A → B) (xs : List A) (i : ℕ) (x : A) → slice_get xs i ≡ Some x → map f (take (i + 1) xs) ≡ map f (take i xs) ++ f x ∷ []
mapped_next {A} f xs i x at =
    rw add-one (ap (map f) (taken_more xs i ∙ ap (λ (o : Option A). take i xs ++ option_map_or (λ (y : A). y ∷ []) o []) at) ∙ map-append f (take i xs) (x ∷ []))

-- past the last place
pub mapped_same : {A B : Type 0} (f : A → B) (xs : List A) (i : ℕ) → slice_get xs i ≡ None → map f (take (i + 1) xs) ≡ map f (take i xs)
mapped_same {A} f xs i at =
    rw add-one (ap (map f) (taken_more xs i ∙ ap (λ (o : Option A). take i xs ++ option_map_or (λ (y : A). y ∷ []) o []) at ∙ append-nil (take i xs)))

-- as many as were made of the first so many are those
pub taken_as_many : {A B : Type 0} (f : A → B) (n : ℕ) (xs : List A) → take (length (map f (take n xs))) xs ≡ take n xs
taken_as_many f n xs = ap (λ k. take k xs) (length-map (take n xs) f ∙ length-take n xs) ∙ take_min n xs
