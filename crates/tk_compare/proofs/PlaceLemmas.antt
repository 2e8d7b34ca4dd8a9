-- All places of a stream, added one after the other.
use Rattle.std.proofs.Common.{◌≡◌, ℕ, List, [], ◌∷◌, ◌++◌, map, Option, Some, None, ap, sym, ◌∙◌, append-nil, append_assoc}
use Rattle.std.specs.Option.{option_map_or}
use Rattle.std.proofs.lemmas.List.{map-append}
use Rattle.tk_series.specs.Limited.{LimitedView}
use Rattle.tk_series.specs.Series.{series_of, with_value}
use Rattle.tk_series.proofs.SeriesLemmas.{series_of-more}
use Rattle.tk_sites.specs.Lines.{more_site}
use Rattle.tk_compare.specs.Compared.{places_in, rest_in}
use Rattle.tk_compare.specs.Spent.{plus}
use Rattle.tk_compare.specs.declared.spent.Compared.{Compared}

module _ {V : Type 0} (e : List ℕ × V → List ℕ × Compared) where
  -- what found no room is added to these
  rest_added : (ys : List (List ℕ × Compared)) (rest : Option V)
      → option_map_or (λ (v : V). with_value plus (e (more_site, v)).0 (e (more_site, v)).1 (series_of plus ys)) rest (series_of plus ys)
      ≡ series_of plus (ys ++ map e (rest_in rest))
  rest_added ys None = ap (series_of plus) (sym (append-nil ys))
  rest_added ys (Some v) = sym (series_of-more plus (e (more_site, v)).0 (e (more_site, v)).1 ys)

  -- so are those that stand by themselves, and then what found no room
  pub all_added : (sites : LimitedView V) (xs : List (List ℕ × Compared)) (mid new : List (List ℕ × Compared)) → mid ≡ series_of plus (xs ++ map e sites.first)
      → new ≡ option_map_or (λ (v : V). with_value plus (e (more_site, v)).0 (e (more_site, v)).1 mid) sites.rest mid
      → new ≡ series_of plus (xs ++ map e (places_in sites))
  all_added sites xs mid new own rest =
      rest
      ∙ ap (λ (m : List (List ℕ × Compared)). option_map_or (λ (v : V). with_value plus (e (more_site, v)).0 (e (more_site, v)).1 m) sites.rest m) own
      ∙ rest_added (xs ++ map e sites.first) sites.rest
      ∙ ap (series_of plus) (append_assoc xs (map e sites.first) (map e (rest_in sites.rest)) ∙ ap (λ ys. xs ++ ys) (sym (map-append e sites.first (rest_in sites.rest))))
