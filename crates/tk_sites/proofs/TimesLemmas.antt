-- Histograms, added up bucket by bucket.
use Rattle.std.proofs.Common.{◌≡◌, ◌<◌, ℕ, zero, suc, ◌+◌, min, List, [], ◌∷◌, ◌++◌, get_or, length, refl, ap, sym, ◌∙◌, arith}
use Rattle.tk_core.specs.Lists.{capped}
use Rattle.tk_sites.specs.Times.{both_from}

-- one bucket more
both-more : (k n : ℕ) (a b : List ℕ) → both_from k (suc n) a b ≡ both_from k n a b ++ capped (get_or a (k + n) 0 + get_or b (k + n) 0) ∷ []
both-more k zero a b =
    let same : k ≡ k + 0 = omega arith in
    ap (λ i. capped (get_or a i 0 + get_or b i 0) ∷ []) same
both-more k (suc n) a b =
    let same : k + 1 + n ≡ k + suc n = omega arith in
    ap (λ xs. capped (get_or a k 0 + get_or b k 0) ∷ xs)
    (both-more (k + 1) n a b ∙ ap (λ i. both_from (k + 1) n a b ++ capped (get_or a i 0 + get_or b i 0) ∷ []) same)

pub both_more : (n : ℕ) (a b : List ℕ) → both_from 0 (n + 1) a b ≡ both_from 0 n a b ++ capped (get_or a n 0 + get_or b n 0) ∷ []
both_more n a b =
    let next : n + 1 ≡ suc n = omega arith in
    let same : 0 + n ≡ n = omega arith in
    ap (λ i. both_from 0 i a b) next ∙ both-more 0 n a b ∙ ap (λ i. both_from 0 n a b ++ capped (get_or a i 0 + get_or b i 0) ∷ []) same

-- the count of a bucket
both-at : (k n i : ℕ) (a b : List ℕ) → i < n → get_or (both_from k n a b) i 0 ≡ capped (get_or a (k + i) 0 + get_or b (k + i) 0)
both-at k zero i a b lt = absurd (omega (arith, lt))
both-at k (suc n) zero a b lt =
    let same : k ≡ k + 0 = omega arith in
    ap (λ j. capped (get_or a j 0 + get_or b j 0)) same
both-at k (suc n) (suc i) a b lt =
    let same : k + 1 + i ≡ k + suc i = omega arith in
    both-at (k + 1) n i a b (omega (arith, lt)) ∙ ap (λ j. capped (get_or a j 0 + get_or b j 0)) same

pub count_at : (i : ℕ) (a b : List ℕ) → i < 14 → get_or (both_from 0 14 a b) i 0 ≡ capped (get_or a i 0 + get_or b i 0)
count_at i a b lt =
    let same : 0 + i ≡ i = omega arith in
    both-at 0 14 i a b lt ∙ ap (λ j. capped (get_or a j 0 + get_or b j 0)) same
