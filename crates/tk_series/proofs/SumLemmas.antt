-- What limited series show is what their values add up to.
use Rattle.std.proofs.Common.{◌≡◌, ◌≤◌, ℕ, zero, suc, ◌+◌, min, List, [], ◌∷◌, ◌++◌, take, map, filter, Bool, true, false, cond, ◌||◌, nat_lt, length, Option, Some, None, refl, sym, ap, ◌∙◌, true≢false, append_assoc, append-nil, arith}
use Rattle.std.specs.Prelude.{fold, not, sum_by}
use Rattle.std.specs.Option.{option_map_or}
use Rattle.std.specs.Str.{bytes_eq}
use Rattle.std.proofs.lemmas.List.Sums.{sum_by-append, sum_by-cons}
use Rattle.tk_series.specs.Limited.{LimitedView, all_of, all_shown, limited, names_of, rest_shown, sum_of, values_beside, with_one}
use Rattle.tk_series.specs.Series.{is_seen, series_of, with_value}
use Rattle.tk_series.specs.Totals.{AddsUp, AreWithin, shown_at, sum_at}
use Rattle.tk_series.proofs.LimitedLemmas.{added, limited-more, put_beside}
use Rattle.tk_series.proofs.TotalLemmas.{adds_up}

module _ {V : Type 0} (most : ℕ) (plus : V → V → V) (number : V → ℕ) (adds : AddsUp most plus number) where
  -- ---- each by itself

  -- one of the first shows what it shows of all
  shown-take : (labels : List ℕ) (n : ℕ) (xs : List (List ℕ × V)) → is_seen (names_of (take n xs)) labels ≡ true
      → shown_at number labels (take n xs) ≡ shown_at number labels xs
  shown-take labels zero xs seen = absurd (true≢false (sym seen))
  shown-take labels (suc n) [] seen = refl
  shown-take labels (suc n) (x ∷ xs) seen = by (bytes_eq labels x.0) seen (shown-take labels n xs)
    where
      by : (b : Bool) → (b || is_seen (names_of (take n xs)) labels) ≡ true
          → (is_seen (names_of (take n xs)) labels ≡ true → shown_at number labels (take n xs) ≡ shown_at number labels xs)
          → cond b (number x.1) (shown_at number labels (take n xs)) ≡ cond b (number x.1) (shown_at number labels xs)
      by true e more = refl
      by false e more = more e

  pub own_shown : (room : ℕ) (labels : List ℕ) (xs : List (List ℕ × V)) → AreWithin most number xs → is_seen (names_of (limited room plus xs).first) labels ≡ true
      → shown_at number labels (limited room plus xs).first ≡ min (sum_at number labels xs) most
  own_shown room labels xs fits seen = shown-take labels room (series_of plus xs) seen ∙ adds_up most plus number labels adds xs fits

  -- ---- the rest

  abbrev AllWithin : List V → Type 0
  AllWithin [] = Unit {0}
  AllWithin (v ∷ vs) = (number v ≤ most) × AllWithin vs

  folded : (v : V) (vs : List V) → number v ≤ most → number (fold plus v vs) ≡ min (number v + sum_by number vs) most
  folded v [] fits = omega (arith, fits)
  folded v (w ∷ ws) fits =
      let one = adds v w in
      let rest = folded (plus v w) ws (omega (arith, one)) in
      let cons = sum_by-cons number w ws in
      omega (arith, one, rest, cons)

  all_folded : (vs : List V) → AllWithin vs → option_map_or number (all_of plus vs) 0 ≡ min (sum_by number vs) most
  all_folded [] fits = omega arith
  all_folded (v ∷ vs) fits =
      let whole = folded v vs fits.0 in
      let cons = sum_by-cons number v vs in
      omega (arith, whole, cons)

  beside_within : (names : List (List ℕ)) (xs : List (List ℕ × V)) → AreWithin most number xs → AllWithin (values_beside names xs)
  beside_within names [] fits = tt
  beside_within names (x ∷ xs) fits = by (not (is_seen names x.0)) (beside_within names xs fits.1)
    where
      by : (b : Bool) → AllWithin (values_beside names xs)
          → AllWithin (map (λ (y : List ℕ × V). y.1) (cond b (x ∷ filter (λ (y : List ℕ × V). not (is_seen names y.0)) xs) (filter (λ (y : List ℕ × V). not (is_seen names y.0)) xs)))
      by true more = (fits.0, more)
      by false more = more

  pub rest_adds : (room : ℕ) (xs : List (List ℕ × V)) → AreWithin most number xs
      → rest_shown number (limited room plus xs) ≡ min (sum_by number (values_beside (names_of (limited room plus xs).first) xs)) most
  rest_adds room xs fits = all_folded (values_beside (names_of (limited room plus xs).first) xs) (beside_within (names_of (limited room plus xs).first) xs fits)

  -- ---- all together

  -- one value more, among series
  all-with : (l : List ℕ) (v : V) (xs : List (List ℕ × V)) → sum_of number xs + number v ≤ most → sum_of number (with_value plus l v xs) ≡ sum_of number xs + number v
  all-with l v [] fits = sum_by-cons (λ (x : List ℕ × V). number x.1) (l, v) [] ∙ omega arith
  all-with l v (x ∷ xs) fits = by (bytes_eq l x.0) (all-with l v xs)
    where
      first : sum_of number (x ∷ xs) ≡ number x.1 + sum_of number xs
      first = sum_by-cons (λ (y : List ℕ × V). number y.1) x xs

      by : (b : Bool) → (sum_of number xs + number v ≤ most → sum_of number (with_value plus l v xs) ≡ sum_of number xs + number v)
          → sum_of number (cond b ((x.0, plus x.1 v) ∷ xs) (x ∷ with_value plus l v xs)) ≡ sum_of number (x ∷ xs) + number v
      by true more =
          let one = adds x.1 v in
          let cons = sum_by-cons (λ (y : List ℕ × V). number y.1) (x.0, plus x.1 v) xs in
          omega (arith, first, fits, one, cons)
      by false more =
          let rest = more (omega (arith, first, fits)) in
          let cons = sum_by-cons (λ (y : List ℕ × V). number y.1) x (with_value plus l v xs) in
          omega (arith, first, rest, cons)

  -- the rest, which a value is added to
  rest-with : (v : V) (rest : Option V) → option_map_or number rest 0 + number v ≤ most
      → number (option_map_or (λ (s : V). plus s v) rest v) ≡ option_map_or number rest 0 + number v
  rest-with v None fits = omega arith
  rest-with v (Some s) fits =
      let one = adds s v in
      omega (arith, fits, one)

  shown-with : (l : List ℕ) (v : V) (s : LimitedView V) → all_shown number s + number v ≤ most → all_shown number (with_one plus l v s) ≡ all_shown number s + number v
  shown-with l v s fits = by (is_seen (names_of s.first) l || nat_lt (length s.first) s.room)
    where
      by : (b : Bool) → all_shown number (cond b (added plus l v s) (put_beside plus l v s)) ≡ all_shown number s + number v
      by true =
          let one = all-with l v s.first (omega (arith, fits)) in
          omega (arith, one)
      by false =
          let one = rest-with v s.rest (omega (arith, fits)) in
          omega (arith, one)

  -- many values more
  all-more : (room : ℕ) (before xs : List (List ℕ × V)) → all_shown number (limited room plus before) ≡ sum_of number before → sum_of number before + sum_of number xs ≤ most
      → all_shown number (limited room plus (before ++ xs)) ≡ sum_of number before + sum_of number xs
  all-more room before [] is fits = ap (λ ys. all_shown number (limited room plus ys)) (append-nil before) ∙ is ∙ omega arith
  all-more room before (x ∷ xs) is fits =
      let first = sum_by-cons (λ (y : List ℕ × V). number y.1) x xs in
      let one = sum_by-cons (λ (y : List ℕ × V). number y.1) x [] in
      let both = sum_by-append (λ (y : List ℕ × V). number y.1) before (x ∷ []) in
      let now : all_shown number (limited room plus (before ++ x ∷ [])) ≡ sum_of number (before ++ x ∷ []) =
      ap (all_shown number) (limited-more plus room x.0 x.1 before)
      ∙ shown-with x.0 x.1 (limited room plus before) (omega (arith, is, fits, first))
      ∙ omega (arith, is, one, both) in
      ap (λ ys. all_shown number (limited room plus ys)) (sym (append_assoc before (x ∷ []) xs))
      ∙ all-more room (before ++ x ∷ []) xs now (omega (arith, fits, first, one, both))
      ∙ omega (arith, first, one, both)

  none : (room : ℕ) → all_shown number (limited room plus []) ≡ 0
  none zero = refl
  none (suc room) = refl

  pub all_adds : (room : ℕ) (xs : List (List ℕ × V)) → sum_of number xs ≤ most → all_shown number (limited room plus xs) ≡ sum_of number xs
  all_adds room xs fits = all-more room [] xs (none room) (omega (arith, fits)) ∙ omega arith
