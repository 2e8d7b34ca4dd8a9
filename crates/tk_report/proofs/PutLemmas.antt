-- What was put, one piece after the other.
use Rattle.std.proofs.Common.{◌≡◌, ℕ, zero, suc, ◌+◌, ◌≤◌, List, [], ◌∷◌, ◌++◌, length, take, slice_get, refl, ap, sym, ◌∙◌, append_assoc, append-nil, add-one, subst}
use Rattle.std.specs.Prelude.{flat_map}
use Rattle.std.specs.Option.{option_map_or}
use Rattle.std.proofs.lemmas.List.{take_all}
use Rattle.tk_report.specs.Pieces.{Puts, spaced}
use Rattle.tk_report.specs.Report.{rest_of_line}

-- two pieces were put
pub both : {a b c p q : List ℕ} → Puts a b p → Puts b c q → Puts a c (p ++ q)
both {a} {b} {c} {p} {q} g h = record { is = h.is ∙ ap (λ xs. xs ++ q) g.is ∙ append_assoc a p q }

-- nothing was put
pub nothing : (a : List ℕ) → Puts a a []
nothing a = record { is = sym (append-nil a) }

-- the words of a line's rest after some of them
pub after_words : (first words : List (List ℕ)) → rest_of_line (first ++ words) ≡ spaced first ++ rest_of_line words
after_words [] words = refl
after_words (word ∷ first) words = ap (λ xs. 32 ∷ xs) (ap (λ xs. word ++ xs) (after_words first words) ∙ sym (append_assoc word (spaced first) (rest_of_line words)))

module _ {A : Type 0} (f : A → List ℕ) where
  -- the texts of items up to a place, and of the one that stands there, if one does
  next : (xs : List A) (i : ℕ) → flat_map f (take (suc i) xs) ≡ flat_map f (take i xs) ++ option_map_or f (slice_get xs i) []
  next [] zero = refl
  next [] (suc i) = refl
  next (y ∷ xs) zero = append-nil (f y)
  next (y ∷ xs) (suc i) = ap (λ ys. f y ++ ys) (next xs i) ∙ sym (append_assoc (f y) (flat_map f (take i xs)) (option_map_or f (slice_get xs i) []))

  pub next_put : {a b c : List ℕ} (xs : List A) (i : ℕ) → Puts a b (flat_map f (take i xs)) → Puts b c (option_map_or f (slice_get xs i) [])
      → Puts a c (flat_map f (take (i + 1) xs))
  next_put {a} {b} {c} xs i g h = subst (Puts a c) (sym (rw add-one (next xs i))) (both g h)

  -- past the last place
  pub all_put : {a b : List ℕ} (xs : List A) (i n : ℕ) → n ≡ length xs → n ≤ i → Puts a b (flat_map f (take i xs)) → Puts a b (flat_map f xs)
  all_put {a} {b} xs i n is past g = subst (λ ys. Puts a b (flat_map f ys)) (take_all i xs (subst (λ m. m ≤ i) is past)) g
