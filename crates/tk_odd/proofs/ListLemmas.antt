-- Lists of what is found, one more.
use Rattle.std.proofs.Common.{◌≡◌, ℕ, zero, suc, ◌+◌, ◌<◌, List, [], ◌∷◌, ◌++◌, length, take, map, slice_get, get_or, Bool, true, false, ◌||◌, Vec, Global, Option, Some, None, refl, ap, sym, ◌∙◌, append-nil, append_assoc, add-one, arith}
use Rattle.std.specs.Prelude.{option_to_list}
use Rattle.std.specs.List.{cons_option, filter_map, list_any}
use Rattle.std.specs.Str.{bytes_eq}
use Rattle.std.specs.Option.{option_map_or}
use Rattle.std.proofs.lemmas.List.{map-append}
use Rattle.std.proofs.lemmas.List.Elements.{filter_map-append}
use Rattle.tk_series.proofs.SeriesLemmas.{taken_more}

-- what is found about one
one_found : {A B : Type 0} (f : A → Option B) (x : A) → filter_map f (x ∷ []) ≡ option_to_list (f x)
one_found {A} {B} f x = by (f x)
  where
    by : (o : Option B) → cons_option o [] ≡ option_to_list o
    by None = refl
    by (Some y) = refl

-- what is found about those up to a place, and about the one that stands there
pub found_more : {A B : Type 0} (f : A → Option B) (xs : List A) (i : ℕ) (before : List B)
    → before ++ filter_map f (take (i + 1) xs) ≡ option_map_or (λ x. (before ++ filter_map f (take i xs)) ++ option_to_list (f x)) (slice_get xs i) (before ++ filter_map f (take i xs))
found_more {A} {B} f xs i before = rw add-one (ap (λ ys. before ++ filter_map f ys) (taken_more xs i) ∙ by (slice_get xs i))
  where
    by : (o : Option A) → before ++ filter_map f (take i xs ++ option_map_or (λ (x : A). x ∷ []) o [])
        ≡ option_map_or (λ x. (before ++ filter_map f (take i xs)) ++ option_to_list (f x)) o (before ++ filter_map f (take i xs))
    by None = ap (λ ys. before ++ filter_map f ys) (append-nil (take i xs))
    by (Some x) =
        ap (λ ys. before ++ ys) (filter_map-append f (take i xs) (x ∷ []) ∙ ap (λ zs. filter_map f (take i xs) ++ zs) (one_found f x))
        ∙ sym (append_assoc before (filter_map f (take i xs)) (option_to_list (f x)))

-- what is made of those up to a place, and of the one that stands there
pub made_more : {A B : Type 0} (f : A → B) (xs : List A) (i : ℕ) (before : List B)
    → before ++ map f (take (i + 1) xs) ≡ option_map_or (λ x. (before ++ map f (take i xs)) ++ f x ∷ []) (slice_get xs i) (before ++ map f (take i xs))
made_more {A} {B} f xs i before = rw add-one (ap (λ ys. before ++ map f ys) (taken_more xs i) ∙ by (slice_get xs i))
  where
    by : (o : Option A) → before ++ map f (take i xs ++ option_map_or (λ (x : A). x ∷ []) o [])
        ≡ option_map_or (λ x. (before ++ map f (take i xs)) ++ f x ∷ []) o (before ++ map f (take i xs))
    by None = ap (λ ys. before ++ map f ys) (append-nil (take i xs))
    by (Some x) =
        ap (λ ys. before ++ ys) (map-append f (take i xs) (x ∷ []))
        ∙ sym (append_assoc before (map f (take i xs)) (f x ∷ []))

or_true : (b : Bool) → (b || true) ≡ true
or_true true = refl
or_true false = refl

-- a place is among those of which it is one
pub there_at : (vs : List (Vec ℕ Global)) (i : ℕ) (v : Vec ℕ Global) (place : List ℕ) → i < length vs → v ≡ get_or vs i v → bytes_eq v.items place ≡ true
    → list_any (λ p. bytes_eq p place) (map (λ w. w.items) vs) ≡ true
there_at [] i v place h at same = absurd (omega (arith, h))
there_at (w ∷ ws) zero v place h at same =
    ap (λ b. b || list_any (λ p. bytes_eq p place) (map (λ u. u.items) ws)) (ap (λ (u : Vec ℕ Global). bytes_eq u.items place) (sym at) ∙ same)
there_at (w ∷ ws) (suc i) v place h at same =
    ap (λ b. bytes_eq w.items place || b) (there_at ws i v place (omega (arith, h)) at same) ∙ or_true (bytes_eq w.items place)
