-- Counts of buckets, less what they were.
use Rattle.std.proofs.Common.{◌≡◌, ℕ, zero, suc, ◌+◌, ◌-◌, List, [], ◌∷◌, ◌++◌, get_or, refl, ap, ◌∙◌, arith}
use Rattle.tk_sites.specs.Span.{less_from}

-- one bucket more
less-more : (k n : ℕ) (a b : List ℕ) → less_from k (suc n) a b ≡ less_from k n a b ++ (get_or b (k + n) 0 - get_or a (k + n) 0) ∷ []
less-more k zero a b =
    let same : k ≡ k + 0 = omega arith in
    ap (λ i. (get_or b i 0 - get_or a i 0) ∷ []) same
less-more k (suc n) a b =
    let same : k + 1 + n ≡ k + suc n = omega arith in
    ap (λ xs. (get_or b k 0 - get_or a k 0) ∷ xs)
    (less-more (k + 1) n a b ∙ ap (λ i. less_from (k + 1) n a b ++ (get_or b i 0 - get_or a i 0) ∷ []) same)

pub less_more : (n : ℕ) (a b : List ℕ) → less_from 0 (n + 1) a b ≡ less_from 0 n a b ++ (get_or b n 0 - get_or a n 0) ∷ []
less_more n a b =
    let next : n + 1 ≡ suc n = omega arith in
    let same : 0 + n ≡ n = omega arith in
    ap (λ i. less_from 0 i a b) next ∙ less-more 0 n a b ∙ ap (λ i. less_from 0 n a b ++ (get_or b i 0 - get_or a i 0) ∷ []) same
