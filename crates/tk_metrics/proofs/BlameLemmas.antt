-- One finding more.
use Rattle.std.proofs.Common.{◌≡◌, ℕ, zero, suc, ◌+◌, ◌<◌, List, [], ◌∷◌, ◌++◌, length, map, take, get_or, ap, sym, ◌∙◌, add-one, arith}
use Rattle.std.proofs.lemmas.List.{map-append}
use Rattle.tk_odd.specs.Findings.{placed}
use Rattle.tk_odd.specs.declared.finding.Found.{Found}
use Rattle.tk_series.specs.Series.{series_of, with_value}
use Rattle.tk_series.proofs.SeriesLemmas.{series_of-more}
use Rattle.tk_metrics.specs.Blame.{finding_entry, finding_series, plus_tally}
use Rattle.tk_metrics.specs.declared.by.By.{By}

-- the first items, and the one after them
one_more : {A : Type 0} (xs : List A) (i : ℕ) (x : A) → i < length xs → x ≡ get_or xs i x → take (i + 1) xs ≡ take i xs ++ x ∷ []
one_more {A} xs i x h at = rw add-one (by xs i h at)
  where
    by : (ys : List A) (j : ℕ) → j < length ys → x ≡ get_or ys j x → take (suc j) ys ≡ take j ys ++ x ∷ []
    by [] j g e = absurd (omega (arith, g))
    by (y ∷ ys) zero g e = ap (λ z. z ∷ []) (sym e)
    by (y ∷ ys) (suc j) g e = ap (λ zs. y ∷ zs) (by ys j (omega (arith, g)) e)

-- the series of the first findings, and of the one after them
pub finding_more : (by : By) (xs : List Found) (i : ℕ) (x : Found) → i < length xs → x ≡ get_or xs i x
    → finding_series by (map placed (take (i + 1) xs))
    ≡ with_value plus_tally (finding_entry by (placed x)).0 (finding_entry by (placed x)).1 (finding_series by (map placed (take i xs)))
finding_more by xs i x h at =
    ap (λ ys. finding_series by (map placed ys)) (one_more xs i x h at)
    ∙ ap (finding_series by) (map-append placed (take i xs) (x ∷ []))
    ∙ ap (series_of plus_tally) (map-append (finding_entry by) (map placed (take i xs)) (placed x ∷ []))
    ∙ series_of-more plus_tally (finding_entry by (placed x)).0 (finding_entry by (placed x)).1 (map (finding_entry by) (map placed (take i xs)))
