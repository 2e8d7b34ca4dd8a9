-- Limited series of the items of a list, one after the other.
use Rattle.std.proofs.Common.{◌≡◌, ℕ, List, [], ◌∷◌, ◌++◌, map, Option, Some, None, ◌+◌, ◌≤◌, length, take, slice_get, ap, sym, subst, ◌∙◌, append-nil, append_assoc, add-one}
use Rattle.std.specs.Option.{option_map_or}
use Rattle.std.proofs.lemmas.List.{map-append, take_all}
use Rattle.tk_series.specs.Limited.{LimitedView, limited, with_one}
use Rattle.tk_series.proofs.SeriesLemmas.{taken_more}
use Rattle.tk_series.proofs.LimitedLemmas.{limited-more}

module _ {A V : Type 0} (room : ℕ) (plus : V → V → V) (e : A → List ℕ × V) (before : List (List ℕ × V)) (xs : List A) where
  -- the series of these and of the items up to a place
  abbrev pub so_far : ℕ → LimitedView V
  so_far i = limited room plus (before ++ map e (take i xs))

  pub item_more : (i : ℕ) → so_far (i + 1) ≡ option_map_or (λ x. with_one plus (e x).0 (e x).1 (so_far i)) (slice_get xs i) (so_far i)
  item_more i = rw add-one (ap (λ ys. limited room plus (before ++ map e ys)) (taken_more xs i) ∙ by (slice_get xs i))
    where
      by : (o : Option A) → limited room plus (before ++ map e (take i xs ++ option_map_or (λ (x : A). x ∷ []) o [])) ≡ option_map_or (λ x. with_one plus (e x).0 (e x).1 (so_far i)) o (so_far i)
      by None = ap (λ ys. limited room plus (before ++ map e ys)) (append-nil (take i xs))
      by (Some x) =
          ap (λ ys. limited room plus (before ++ ys)) (map-append e (take i xs) (x ∷ []))
          ∙ ap (limited room plus) (sym (append_assoc before (map e (take i xs)) (e x ∷ [])))
          ∙ limited-more plus room (e x).0 (e x).1 (before ++ map e (take i xs))

  -- past the last place
  pub items_all : (i n : ℕ) → n ≡ length xs → n ≤ i → so_far i ≡ limited room plus (before ++ map e xs)
  items_all i n is past = ap (λ ys. limited room plus (before ++ map e ys)) (take_all i xs (subst (λ m. m ≤ i) is past))
