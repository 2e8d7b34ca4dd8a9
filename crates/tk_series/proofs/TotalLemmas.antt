-- What series show is what their values add up to.
use Rattle.std.proofs.Common.{◌≡◌, ◌≤◌, ℕ, ◌+◌, min, List, [], ◌∷◌, ◌++◌, Bool, true, false, cond, refl, sym, ap, ◌∙◌, true≢false, append_assoc, append-nil, arith}
use Rattle.std.proofs.lemmas.List.Sums.{sum_by-cons}
use Rattle.std.specs.Cmp.Lexicographic.{nat_list_eq_equiv}
use Rattle.std.specs.Str.{bytes_eq}
use Rattle.tk_series.specs.Series.{series_of, with_value}
use Rattle.tk_series.specs.Totals.{AddsUp, AreWithin, number_at, shown_at, sum_at}
use Rattle.tk_series.proofs.SeriesLemmas.{series_of-more}

module _ {V : Type 0} (most : ℕ) (plus : V → V → V) (number : V → ℕ) (labels : List ℕ) (adds : AddsUp most plus number) where
  -- one value more, among series
  shown-more : (l : List ℕ) (v : V) → number v ≤ most → (xs : List (List ℕ × V))
      → shown_at number labels (with_value plus l v xs) ≡ cond (bytes_eq labels l) (min (shown_at number labels xs + number v) most) (shown_at number labels xs)
  shown-more l v fits [] = first (bytes_eq labels l)
    where
      first : (b : Bool) → cond b (number v) 0 ≡ cond b (min (0 + number v) most) 0
      first true = omega arith
      first false = refl
  shown-more l v fits (x ∷ xs) = by (bytes_eq l x.0) refl (bytes_eq labels x.0) refl (bytes_eq labels l) refl (shown-more l v fits xs)
    where
      by : (e : Bool) → bytes_eq l x.0 ≡ e → (h : Bool) → bytes_eq labels x.0 ≡ h → (b : Bool) → bytes_eq labels l ≡ b
          → shown_at number labels (with_value plus l v xs) ≡ cond b (min (shown_at number labels xs + number v) most) (shown_at number labels xs)
          → shown_at number labels (cond e ((x.0, plus x.1 v) ∷ xs) (x ∷ with_value plus l v xs))
          ≡ cond b (min (cond h (number x.1) (shown_at number labels xs) + number v) most) (cond h (number x.1) (shown_at number labels xs))
      by true p true q true r more = ap (λ c. cond c (number (plus x.1 v)) (shown_at number labels xs)) q ∙ adds x.1 v
      by true p true q false r more = absurd (true≢false (sym (nat_list_eq_equiv.congr labels x.0 l q ∙ nat_list_eq_equiv.symm x.0 l ∙ p) ∙ r))
      by true p false q true r more = absurd (true≢false (sym (nat_list_eq_equiv.congr labels l x.0 r ∙ p) ∙ q))
      by true p false q false r more = ap (λ c. cond c (number (plus x.1 v)) (shown_at number labels xs)) q
      by false p true q true r more = absurd (true≢false (sym q ∙ nat_list_eq_equiv.congr labels l x.0 r ∙ p))
      by false p true q false r more = ap (λ c. cond c (number x.1) (shown_at number labels (with_value plus l v xs))) q
      by false p false q b r more = ap (λ c. cond c (number x.1) (shown_at number labels (with_value plus l v xs))) q ∙ more

  -- many values more
  shown-sum : (before xs : List (List ℕ × V)) → shown_at number labels (series_of plus before) ≤ most → AreWithin most number xs
      → shown_at number labels (series_of plus (before ++ xs)) ≡ min (shown_at number labels (series_of plus before) + sum_at number labels xs) most
  shown-sum before [] small fits = ap (λ ys. shown_at number labels (series_of plus ys)) (append-nil before) ∙ omega arith
  shown-sum before (x ∷ xs) small fits =
      let s = shown_at number labels (series_of plus before) in
      let now = ap (shown_at number labels) (series_of-more plus x.0 x.1 before) ∙ shown-more x.0 x.1 fits.0 (series_of plus before) in
      ap (λ ys. shown_at number labels (series_of plus ys)) (sym (append_assoc before (x ∷ []) xs))
      ∙ shown-sum (before ++ x ∷ []) xs (rw now (within (bytes_eq labels x.0) s (number x.1) small)) fits.1
      ∙ ap (λ n. min (n + sum_at number labels xs) most) now
      ∙ joined (bytes_eq labels x.0) s (number x.1) (sum_at number labels xs)
      ∙ ap (λ n. min (s + n) most) (sym (sum_by-cons (number_at number labels) x xs))
    where
      within : (b : Bool) (s n : ℕ) → s ≤ most → cond b (min (s + n) most) s ≤ most
      within true s n small = omega arith
      within false s n small = small

      joined : (b : Bool) (s n rest : ℕ) → min (cond b (min (s + n) most) s + rest) most ≡ min (s + (cond b n 0 + rest)) most
      joined true s n rest = omega arith
      joined false s n rest = omega arith

  pub adds_up : (xs : List (List ℕ × V)) → AreWithin most number xs → shown_at number labels (series_of plus xs) ≡ min (sum_at number labels xs) most
  adds_up xs fits = shown-sum [] xs (omega arith) fits ∙ from_none (sum_at number labels xs)
    where
      from_none : (n : ℕ) → min (0 + n) most ≡ min n most
      from_none n = omega arith
