-- Three names of three.
use Rattle.std.proofs.Common.{◌≡◌, ℕ, List, [], ◌∷◌, length, Some, Option, refl, ap, sym, ◌∙◌, arith}
use Rattle.std.specs.Prelude.{slice_get}

pub three_are : (xs : List (List ℕ)) (a b c : List ℕ) → length xs ≡ 3 → slice_get xs 0 ≡ Some a → slice_get xs 1 ≡ Some b → slice_get xs 2 ≡ Some c → xs ≡ a ∷ b ∷ c ∷ []
three_are [] a b c size x y z = absurd (omega (arith, size))
three_are (p ∷ []) a b c size x y z = absurd (omega (arith, size))
three_are (p ∷ q ∷ []) a b c size x y z = absurd (omega (arith, size))
three_are (p ∷ q ∷ r ∷ []) a b c size x y z = by (cc) (cc) (cc)
  where
    by : p ≡ a → q ≡ b → r ≡ c → p ∷ q ∷ r ∷ [] ≡ a ∷ b ∷ c ∷ []
    by e f g = λ i. e i ∷ f i ∷ g i ∷ []
three_are (p ∷ q ∷ r ∷ s ∷ more) a b c size x y z = absurd (omega (arith, size))
