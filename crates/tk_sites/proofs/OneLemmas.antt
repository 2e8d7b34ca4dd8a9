-- Which place has a number.
use Rattle.std.proofs.Common.{◌≡◌, ℕ, zero, suc, List, [], ◌∷◌, ◌++◌, length, Some, None, is_some, slice_get, refl, ap, sym, true≢false}

module _ {A : Type 0} where
  -- one of the first
  pub there_first : (xs ys : List A) (i : ℕ) (x : A) → slice_get xs i ≡ Some x → slice_get (xs ++ ys) i ≡ Some x
  there_first [] ys i x is = absurd (true≢false (ap is_some (sym is)))
  there_first (y ∷ xs) ys zero x is = is
  there_first (y ∷ xs) ys (suc i) x is = there_first xs ys i x is

  -- the last
  pub there_last : (xs : List A) (y : A) → slice_get (xs ++ y ∷ []) (length xs) ≡ Some y
  there_last [] y = refl
  there_last (x ∷ xs) y = there_last xs y

  -- neither one of the first nor the last
  pub nowhere : (xs : List A) (y : A) (i : ℕ) → slice_get xs i ≡ None → (i ≡ length xs → ⊥) → slice_get (xs ++ y ∷ []) i ≡ None
  nowhere [] y zero none other = absurd (other refl)
  nowhere [] y (suc i) none other = refl
  nowhere (x ∷ xs) y zero none other = absurd (true≢false (ap is_some none))
  nowhere (x ∷ xs) y (suc i) none other = nowhere xs y i none (λ e. other (ap suc e))
