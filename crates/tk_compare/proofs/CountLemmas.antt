-- How many of a list pass a test, one after the other.
use Rattle.std.proofs.Common.{◌≡◌, ℕ, ◌+◌, ◌≤◌, List, [], ◌∷◌, Bool, length, filter, take, slice_get, ap, ◌∙◌, add-one, subst}
use Rattle.std.specs.Option.{option_map_or}
use Rattle.std.proofs.lemmas.List.{length-append, take_all}
use Rattle.std.proofs.lemmas.List.Elements.{filter-append}
use Rattle.tk_series.proofs.SeriesLemmas.{taken_more}

module _ {A : Type 0} (test : A → Bool) (xs : List A) where
  -- those up to a place that pass
  abbrev pub count_to : ℕ → ℕ
  count_to i = length (filter test (take i xs))

  -- and the one that stands there
  pub count_more : (i : ℕ) → count_to (i + 1) ≡ count_to i + length (filter test (option_map_or (λ (x : A). x ∷ []) (slice_get xs i) []))
  count_more i = rw add-one
      (ap (λ ys. length (filter test ys)) (taken_more xs i)
      ∙ ap length (filter-append test (take i xs) (option_map_or (λ (x : A). x ∷ []) (slice_get xs i) []))
      ∙ length-append (filter test (take i xs)) (filter test (option_map_or (λ (x : A). x ∷ []) (slice_get xs i) [])))

  -- past the last place
  pub count_all : (i n : ℕ) → n ≡ length xs → n ≤ i → count_to i ≡ length (filter test xs)
  count_all i n is past = ap (λ ys. length (filter test ys)) (take_all i xs (subst (λ m. m ≤ i) is past))
