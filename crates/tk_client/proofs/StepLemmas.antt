-- One step over bytes stops in a front of them.
use Rattle.std.proofs.Common.{◌≡◌, ℕ, zero, suc, ◌≤◌, ◌<◌, List, [], ◌∷◌, length, take, refl, ap, subst, arith, length-take}
use Rattle.tk_client.specs.declared.fault.FeedError.{FeedError}
use Rattle.tk_client.specs.Feeding.{ClientView, Stopped, StoppedBy}
use Rattle.tk_client.specs.Meaning.{meaning}

take-within : (n m : ℕ) (xs : List ℕ) → n ≤ m → take n (take m xs) ≡ take n xs
take-within n zero [] le = refl
take-within n (suc m) [] le = refl
take-within zero m (x ∷ xs) le = refl
take-within (suc n) zero (x ∷ xs) le = absurd (omega (arith, le))
take-within (suc n) (suc m) (x ∷ xs) le = ap (λ ys. x ∷ ys) (take-within n m xs (omega (arith, le)))

-- what stops in a front of bytes stops in them
pub stopped-more : (old new : ClientView) (bytes : List ℕ) (end : ℕ) (e : FeedError) → end < length bytes → Stopped old (take end bytes) e new → Stopped old bytes e new
stopped-more old new bytes end e inside s =
    let long : length (take end bytes) ≡ end = omega (arith, length-take end bytes, inside) in
    record {
      within = omega (arith, s.within, long, inside);
      few = s.few;
      by = subst (λ xs. StoppedBy e.fault (meaning old.max_line old.start xs) e new) (take-within e.used end bytes (omega (arith, s.within, long))) s.by;
    }
