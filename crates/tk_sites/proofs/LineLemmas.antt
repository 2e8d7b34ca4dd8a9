-- What is written of places, one after the other.
use Rattle.std.proofs.Common.{◌≡◌, ℕ, zero, suc, ◌+◌, ◌≤◌, List, [], ◌∷◌, ◌++◌, length, Option, Some, None, take, slice_get, refl, ap, sym, ◌∙◌, append_assoc, append-nil, arith, subst}
use Rattle.std.specs.Option.{option_map_or}
use Rattle.std.proofs.lemmas.List.{take_all}
use Rattle.tk_report.specs.Pieces.{Puts, spaced}
use Rattle.tk_report.specs.Report.{line, rest_of_line}
use Rattle.tk_report.proofs.PutLemmas.{after_words, both}
use Rattle.tk_series.specs.Limited.{LimitedView}
use Rattle.tk_sites.specs.Lines.{listed, more_of, more_site, numbered}
use Rattle.tk_sites.specs.declared.sums.Sums.{Sums}

-- some words of a line, and the rest of it
pub words_put : {a b c : List ℕ} (first words : List (List ℕ)) → Puts a b (spaced first) → Puts b c (rest_of_line words) → Puts a c (rest_of_line (first ++ words))
words_put {a} {b} {c} first words g h = subst (Puts a c) (sym (after_words first words)) (both g h)

-- the first words of a line, and the rest of it
pub line_put : {a b c : List ℕ} (word : List ℕ) (first words : List (List ℕ)) → Puts a b (word ++ spaced first) → Puts b c (rest_of_line words) → Puts a c (line word (first ++ words))
line_put {a} {b} {c} word first words g h =
    subst (Puts a c) (append_assoc word (spaced first) (rest_of_line words) ∙ ap (λ xs. word ++ xs) (sym (after_words first words))) (both g h)

module _ (text : ℕ → List ℕ × Sums → List ℕ) where
  -- what is written up to a place, and of the one that stands there, if one does
  numbered_more : (n : ℕ) (xs : List (List ℕ × Sums)) (i : ℕ)
      → numbered text n (take (suc i) xs) ≡ numbered text n (take i xs) ++ option_map_or (text (i + n)) (slice_get xs i) []
  numbered_more n [] zero = refl
  numbered_more n [] (suc i) = refl
  numbered_more n (x ∷ xs) zero =
      let same : n ≡ zero + n = omega arith in
      append-nil (text n x) ∙ ap (λ k. text k x) same
  numbered_more n (x ∷ xs) (suc i) =
      let same : i + (n + 1) ≡ suc i + n = omega arith in
      ap (λ ys. text n x ++ ys) (numbered_more (n + 1) xs i ∙ ap (λ k. numbered text (n + 1) (take i xs) ++ option_map_or (text k) (slice_get xs i) []) same)
      ∙ sym (append_assoc (text n x) (numbered text (n + 1) (take i xs)) (option_map_or (text (suc i + n)) (slice_get xs i) []))

  pub next_put : {a b c : List ℕ} (xs : List (List ℕ × Sums)) (i : ℕ) → Puts a b (numbered text 1 (take i xs))
      → Puts b c (option_map_or (text (i + 1)) (slice_get xs i) []) → Puts a c (numbered text 1 (take (i + 1) xs))
  next_put {a} {b} {c} xs i g h =
      let same : suc i ≡ i + 1 = omega arith in
      subst (λ k. Puts a c (numbered text 1 (take k xs))) same (subst (Puts a c) (sym (numbered_more 1 xs i)) (both g h))

  -- past the last place
  pub all_put : {a b : List ℕ} (xs : List (List ℕ × Sums)) (i n : ℕ) → n ≡ length xs → n ≤ i → Puts a b (numbered text 1 (take i xs)) → Puts a b (numbered text 1 xs)
  all_put {a} {b} xs i n is past g = subst (λ ys. Puts a b (numbered text 1 ys)) (take_all i xs (subst (λ m. m ≤ i) is past)) g

  -- ---- the one place more

  numbered-append : (n : ℕ) (xs ys : List (List ℕ × Sums)) → numbered text n (xs ++ ys) ≡ numbered text n xs ++ numbered text (length xs + n) ys
  numbered-append n [] ys =
      let same : n ≡ length {A = List ℕ × Sums} [] + n = omega arith in
      ap (λ k. numbered text k ys) same
  numbered-append n (x ∷ xs) ys =
      let same : length xs + (n + 1) ≡ length (x ∷ xs) + n = omega arith in
      ap (λ zs. text n x ++ zs) (numbered-append (n + 1) xs ys ∙ ap (λ k. numbered text (n + 1) xs ++ numbered text k ys) same)
      ∙ sym (append_assoc (text n x) (numbered text (n + 1) xs) (numbered text (length (x ∷ xs) + n) ys))

  more_put : (n : ℕ) (rest : Option Sums) → numbered text n (more_of rest) ≡ option_map_or (λ (s : Sums). text n (more_site, s)) rest []
  more_put n None = refl
  more_put n (Some s) = append-nil (text n (more_site, s))

  pub listed_put : {a b c : List ℕ} (sites : LimitedView Sums) → Puts a b (numbered text 1 sites.first)
      → Puts b c (option_map_or (λ (s : Sums). text (length sites.first + 1) (more_site, s)) sites.rest []) → Puts a c (numbered text 1 (listed sites))
  listed_put {a} {b} {c} sites g h =
      subst (Puts a c) (sym (numbered-append 1 sites.first (more_of sites.rest) ∙ ap (λ ys. numbered text 1 sites.first ++ ys) (more_put (length sites.first + 1) sites.rest))) (both g h)
