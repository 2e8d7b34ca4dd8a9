-- What is kept of a list, one element after the other.
use Rattle.std.proofs.Common.{◌≡◌, ℕ, zero, suc, ◌+◌, List, [], ◌∷◌, ◌++◌, Bool, true, false, cond, take, slice_get, Some, refl, ap, sym, ◌∙◌, add-one}
use Rattle.std.specs.Prelude.{map, filter}
use Rattle.std.proofs.lemmas.Option.{same_Some}
use Rattle.tk_stream.specs.Kept.{kept}

module _ {A B : Type 0} (f : A → B) (p : A → Bool) where
  first : (x : A) → map f (cond (p x) (x ∷ []) []) ≡ kept (p x) (f x)
  first x = by (p x)
    where
      by : (b : Bool) → map f (cond b (x ∷ []) []) ≡ kept b (f x)
      by true = refl
      by false = refl

  one_kept : (y : A) (b : Bool) (xs ys : List A) (more : List B) → map f xs ≡ map f ys ++ more → map f (cond b (y ∷ xs) xs) ≡ map f (cond b (y ∷ ys) ys) ++ more
  one_kept y true xs ys more e = ap (λ zs. f y ∷ zs) e
  one_kept y false xs ys more e = e

  next : (xs : List A) (i : ℕ) (x : A) → Some x ≡ slice_get xs i → map f (filter p (take (suc i) xs)) ≡ map f (filter p (take i xs)) ++ kept (p x) (f x)
  next [] i x at = absurd (cc)
  next (y ∷ xs) zero x at = first y ∙ ap (λ z. kept (p z) (f z)) (same_Some y x (sym at))
  next (y ∷ xs) (suc i) x at = one_kept y (p y) (filter p (take (suc i) xs)) (filter p (take i xs)) (kept (p x) (f x)) (next xs i x at)

  pub kept-take : (xs : List A) (i : ℕ) (x : A) → Some x ≡ slice_get xs i → map f (filter p (take (i + 1) xs)) ≡ map f (filter p (take i xs)) ++ kept (p x) (f x)
  kept-take xs i x at = rw add-one (next xs i x at)
