-- The ranks of tasks and of places, one more.
use Rattle.std.proofs.Common.{◌≡◌, ℕ, zero, suc, ◌+◌, List, [], ◌∷◌, ◌++◌, take, slice_get, Some, ap, sym, ◌∙◌, add-one, arith}
use Rattle.tk_page.specs.Ranks.{ranks_from}
use Rattle.tk_page.specs.declared.ranks.Rank.{Rank}

from_next : {A : Type 0} (rank : ℕ → A → Rank) (k : ℕ) (xs : List A) (i : ℕ) (x : A) → slice_get xs i ≡ Some x
    → ranks_from rank k (take (suc i) xs) ≡ ranks_from rank k (take i xs) ++ rank (k + i) x ∷ []
from_next rank k [] zero x e = absurd (cc)
from_next rank k [] (suc i) x e = absurd (cc)
from_next rank k (y ∷ ys) zero x e =
    let is : y ≡ x = cc in
    let n : k ≡ k + 0 = omega arith in
    ap (λ u. rank k u ∷ []) is ∙ ap (λ j. rank j x ∷ []) n
from_next rank k (y ∷ ys) (suc i) x e =
    let n : (k + 1) + i ≡ k + suc i = omega arith in
    ap (λ rs. rank k y ∷ rs) (from_next rank (k + 1) ys i x e ∙ ap (λ j. ranks_from rank (k + 1) (take i ys) ++ rank j x ∷ []) n)

pub ranks_next : {A : Type 0} (rank : ℕ → A → Rank) (xs : List A) (i : ℕ) (x : A) → Some x ≡ slice_get xs i
    → ranks_from rank 0 (take (i + 1) xs) ≡ ranks_from rank 0 (take i xs) ++ rank i x ∷ []
ranks_next rank xs i x at =
    let n : 0 + i ≡ i = omega arith in
    rw add-one (from_next rank 0 xs i x (sym at) ∙ ap (λ j. ranks_from rank 0 (take i xs) ++ rank j x ∷ []) n)
