-- Names, one after the other.
use Rattle.std.proofs.Common.{◌≡◌, ℕ, ◌+◌, ◌≤◌, List, [], ◌∷◌, ◌++◌, Vec, Option, Some, None, append-nil, refl, length, map, take, slice_get, ap, sym, ◌∙◌, add-one, subst}
use Rattle.std.specs.Prelude.{not}
use Rattle.std.specs.Option.{option_map_or}
use Rattle.std.proofs.lemmas.List.{map-append, take_all}
use Rattle.std.proofs.lemmas.List.Elements.{filter-append}
use Rattle.tk_odd.specs.Places.{without_numbers}
use Rattle.tk_series.specs.Series.{is_seen}
use Rattle.tk_series.proofs.SeriesLemmas.{taken_more}
use Rattle.tk_compare.specs.Names.{alone, loosened, texts}

-- what is made of both parts of a list is what is made of each
pub loosened-append : (own xs ys : List (List ℕ)) → loosened own (xs ++ ys) ≡ loosened own xs ++ loosened own ys
loosened-append own xs ys =
    ap (map without_numbers) (filter-append (λ (name : List ℕ). not (is_seen own name)) xs ys) ∙ map-append without_numbers (alone own xs) (alone own ys)

module _ {A B : Type 0} (f : List A → List B) (joins : (xs ys : List A) → f (xs ++ ys) ≡ f xs ++ f ys) (xs : List A) where
  -- of those up to a place, and of the one that stands there
  pub made_more : (i : ℕ) → f (take (i + 1) xs) ≡ f (take i xs) ++ f (option_map_or (λ (x : A). x ∷ []) (slice_get xs i) [])
  made_more i = rw add-one (ap f (taken_more xs i) ∙ joins (take i xs) (option_map_or (λ (x : A). x ∷ []) (slice_get xs i) []))

  -- what stands there is put behind others, if anything does
  pub made_next : f [] ≡ [] → (acc : List B) (o : Option A) → option_map_or (λ (x : A). acc ++ f (x ∷ [])) o acc ≡ acc ++ f (option_map_or (λ (x : A). x ∷ []) o [])
  made_next empty acc None = sym (append-nil acc) ∙ ap (λ ys. acc ++ ys) (sym empty)
  made_next empty acc (Some x) = refl

  -- past the last place
  pub made_all : (i n : ℕ) → n ≡ length xs → n ≤ i → f (take i xs) ≡ f xs
  made_all i n is past = ap f (take_all i xs (subst (λ m. m ≤ i) is past))

-- what is made of names that are kept
pub loose-append : {A : Type 0} (own : List (List ℕ)) (xs ys : List (Vec ℕ A)) → loosened own (texts (xs ++ ys)) ≡ loosened own (texts xs) ++ loosened own (texts ys)
loose-append {A} own xs ys = ap (loosened own) (map-append (λ (v : Vec ℕ A). v.items) xs ys) ∙ loosened-append own (texts xs) (texts ys)
