-- What places show of a number is in all what their entries add up to.
use Rattle.std.proofs.Common.{◌≡◌, ◌≤◌, ℕ, ◌+◌, List, ◌∙◌, Option, Some, None, refl, ap, arith}
use Rattle.std.specs.Option.{option_map_or}
use Rattle.std.proofs.lemmas.List.Sums.{sum_by-append}
use Rattle.tk_series.specs.Limited.{LimitedView, all_shown, limited}
use Rattle.tk_series.specs.Totals.{AddsUp}
use Rattle.tk_series.proofs.SumLemmas.{all_adds}
use Rattle.tk_sites.specs.Laws.{over_all}
use Rattle.tk_sites.specs.Lines.{listed, more_of, more_site}
use Rattle.tk_sites.specs.Site.{room}
use Rattle.tk_sites.specs.Sums.{plus}
use Rattle.tk_sites.specs.declared.sums.Sums.{Sums}

module _ (number : Sums → ℕ) where
  rest-shown : (rest : Option Sums) → over_all number (more_of rest) ≡ option_map_or number rest 0
  rest-shown None = refl
  rest-shown (Some s) = let one : 0 + number s ≡ number s = omega arith in one

  listed-shown : (s : LimitedView Sums) → over_all number (listed s) ≡ all_shown number s
  listed-shown s = sum_by-append (λ (x : List ℕ × Sums). number x.1) s.first (more_of s.rest) ∙ ap (λ n. over_all number s.first + n) (rest-shown s.rest)

  pub all_added : (most : ℕ) → AddsUp most plus number → (xs : List (List ℕ × Sums)) → over_all number xs ≤ most → over_all number (listed (limited room plus xs)) ≡ over_all number xs
  all_added most adds xs fits = listed-shown (limited room plus xs) ∙ all_adds most plus number adds room xs fits
