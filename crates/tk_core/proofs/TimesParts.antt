-- A list of numbers is its elements, one after the other.
use Rattle.std.proofs.Common.{◌≡◌, ℕ, zero, suc, ◌+◌, List, [], ◌∷◌, length, get_or, drop, sym, ap, ◌∙◌, arith}
use Rattle.std.proofs.Math.ListN.{drop_of_length-le}
use Rattle.std.proofs.lemmas.List.{drop_more}

-- so many elements from this one on
abbrev pub parts : ℕ → ℕ → List ℕ → List ℕ
parts k zero xs = []
parts k (suc n) xs = get_or xs k 0 ∷ parts (k + 1) n xs

parts_from : (xs : List ℕ) (k n : ℕ) → length xs ≡ k + n → parts k n xs ≡ drop k xs
parts_from xs k zero e = sym (drop_of_length-le xs (omega (arith, e)))
parts_from xs k (suc n) e = ap (λ ys. get_or xs k 0 ∷ ys) (parts_from xs (k + 1) n (omega (arith, e))) ∙ sym (drop_more xs k 0 (omega (arith, e)))

pub parts_are : (xs : List ℕ) (n : ℕ) → length xs ≡ n → parts 0 n xs ≡ xs
parts_are xs n e = parts_from xs 0 n (omega (arith, e))
