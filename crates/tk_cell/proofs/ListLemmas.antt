-- Lists, counts and totals.
use Rattle.std.proofs.Common.{◌≡◌, ◌≢◌, ℕ, zero, suc, ◌+◌, ◌≤◌, true, false, List, [], ◌∷◌, ◌++◌, length, set, eqb, refl, ap, sym, ◌∙◌, subst, arith, append_assoc, inl, inr, ◌⊎◌, ⊎_elim}
use Rattle.std.proofs.lemmas.List.{append-nil}
use Rattle.std.proofs.lemmas.Bool.{eq-eqb, ne_eqb}
use mathlib.Core.Option.{some, some-injective, some-ne-none}
use mathlib.Core.List.{IsPrefix}
use native.Mathlib.Decide.{ℕ_discrete}
use lib.ListN.{get_elem?}
use Rattle.tk_cell.specs.Views.{times, without}
use Rattle.tk_core.specs.Lists.{total}

module _ {A : Type 0} where
  pub prefix_self : (xs : List A) → IsPrefix xs xs
  prefix_self xs = ([], append-nil xs)

  pub prefix_trans : (xs ys zs : List A) → IsPrefix xs ys → IsPrefix ys zs → IsPrefix xs zs
  prefix_trans xs ys zs p q = (p.0 ++ q.0, sym (append_assoc xs p.0 q.0) ∙ (ap (λ w. w ++ q.0) p.1 ∙ q.1))

  pub prefix_more : (xs ys zs : List A) → IsPrefix xs ys → IsPrefix xs (ys ++ zs)
  prefix_more xs ys zs p = prefix_trans xs ys (ys ++ zs) p (zs, refl)

  -- of two beginnings of one list the shorter begins the longer
  pub prefix_shorter : (xs ys zs : List A) → IsPrefix xs zs → IsPrefix ys zs → length xs ≤ length ys → IsPrefix xs ys
  prefix_shorter [] ys zs p q le = (ys, refl)
  prefix_shorter (x ∷ xs) [] zs p q le = absurd (omega arith)
  prefix_shorter (x ∷ xs) (y ∷ ys) [] p q le = absurd (cc (p.1))
  prefix_shorter (x ∷ xs) (y ∷ ys) (z ∷ zs) p q le =
      let heads : x ≡ y = cc (p.1, q.1) in
      let rest = prefix_shorter xs ys zs (p.0, cc (p.1)) (q.0, cc (q.1)) (omega arith) in
      (rest.0, cc (heads, rest.1))

  pub not_nil : (xs ys : List A) (x : A) → xs ++ x ∷ ys ≡ [] → ⊥
  not_nil [] ys x e = cc
  not_nil (y ∷ xs) ys x e = cc

  -- a place in a list with one more element is the last one, or a place in the list
  pub snoc_cases : (before after log : List A) (x y : A) → before ++ x ∷ after ≡ log ++ y ∷ [] → ((before ≡ log) × (x ≡ y)) ⊎ ((rest : List A) × (before ++ x ∷ rest ≡ log))
  snoc_cases [] after [] x y e = inl (refl, cc)
  snoc_cases [] after (z ∷ log) x y e = let heads : x ≡ z = cc in inr (log, ap (λ w. w ∷ log) heads)
  snoc_cases (b ∷ before) after [] x y e = let tails : before ++ x ∷ after ≡ [] = cc in absurd (not_nil before after x tails)
  snoc_cases (b ∷ before) after (z ∷ log) x y e =
      let heads : b ≡ z = cc in let tails : before ++ x ∷ after ≡ log ++ y ∷ [] = cc in
      ⊎_elim (λ (t : (before ≡ log) × (x ≡ y)). inl (cc (heads, t.0), t.1)) (λ (t : (rest : List A) × (before ++ x ∷ rest ≡ log)). inr (t.0, cc (heads, t.1))) (snoc_cases before after log x y tails)

  -- a total after a change of one part
  pub total_set : (f : A → ℕ) (vs : List A) (i : ℕ) (v w : A) → get_elem? vs i ≡ some v → total f (set vs i w) + f v ≡ total f vs + f w
  total_set f [] i v w e = absurd (some-ne-none v (sym e))
  total_set f (x ∷ vs) zero v w e = let same : f x ≡ f v = ap f (some-injective x v e) in omega arith
  total_set f (x ∷ vs) (suc i) v w e = omega (arith, total_set f vs i v w e)

  pub total_snoc : (f : A → ℕ) (vs : List A) (w : A) → total f (vs ++ w ∷ []) ≡ total f vs + f w
  total_snoc f [] w = omega arith
  total_snoc f (x ∷ vs) w = omega (arith, total_snoc f vs w)

  pub total_one : (f : A → ℕ) (vs : List A) (i : ℕ) (v : A) → get_elem? vs i ≡ some v → f v ≤ total f vs
  total_one f [] i v e = absurd (some-ne-none v (sym e))
  total_one f (x ∷ vs) zero v e = let same : f x ≡ f v = ap f (some-injective x v e) in omega arith
  total_one f (x ∷ vs) (suc i) v e = omega (arith, total_one f vs i v e)

  pub total_two : (f : A → ℕ) (vs : List A) (i j : ℕ) (v w : A) → i ≢ j → get_elem? vs i ≡ some v → get_elem? vs j ≡ some w → f v + f w ≤ total f vs
  total_two f [] i j v w n e d = absurd (some-ne-none v (sym e))
  total_two f (x ∷ vs) zero zero v w n e d = absurd (n refl)
  total_two f (x ∷ vs) zero (suc j) v w n e d = let same : f x ≡ f v = ap f (some-injective x v e) in omega (arith, total_one f vs j w d)
  total_two f (x ∷ vs) (suc i) zero v w n e d = let same : f x ≡ f w = ap f (some-injective x w d) in omega (arith, total_one f vs i v e)
  total_two f (x ∷ vs) (suc i) (suc j) v w n e d = omega (arith, total_two f vs i j v w (λ s. n (ap suc s)) e d)

  pub total_none : (f : A → ℕ) (vs : List A) → ((i : ℕ) (v : A) → get_elem? vs i ≡ some v → f v ≡ 0) → total f vs ≡ 0
  total_none f [] h = refl
  total_none f (x ∷ vs) h = omega (arith, h 0 x refl, total_none f vs (λ i v e. h (suc i) v e))

pub times-append : (n : ℕ) (xs ys : List ℕ) → times n (xs ++ ys) ≡ times n xs + times n ys
times-append n [] ys = omega arith
times-append n (x ∷ xs) ys = omega (arith, times-append n xs ys)

pub times_itself : (n : ℕ) → times n (n ∷ []) ≡ 1
times_itself n = rw (eq-eqb n n refl) refl

pub times_other : (n k : ℕ) → n ≢ k → times k (n ∷ []) ≡ 0
times_other n k ne = rw (ne_eqb n k ne) refl

pub dec_eq : (n k : ℕ) → (n ≡ k) ⊎ (n ≢ k)
dec_eq n k = elim (ℕ_discrete n k) [ yes e ↦ inl e | no ne ↦ inr ne ]

pub without_itself : (n : ℕ) (xs : List ℕ) → times n (without n xs) ≡ 0
without_itself n [] = refl
without_itself n (x ∷ xs) = ⊎_elim
    (λ (e : x ≡ n). let t : eqb x n ≡ true = eq-eqb x n e in rw t (without_itself n xs))
    (λ (ne : x ≢ n). let t : eqb x n ≡ false = ne_eqb x n ne in rw t (rw t (omega (arith, without_itself n xs))))
    (dec_eq x n)

pub without_other : (n k : ℕ) (xs : List ℕ) → n ≢ k → times k (without n xs) ≡ times k xs
without_other n k [] apart = refl
without_other n k (x ∷ xs) apart = ⊎_elim
    (λ (e : x ≡ n). let t : eqb x n ≡ true = eq-eqb x n e in let u : eqb x k ≡ false = ne_eqb x k (λ s. apart (sym e ∙ s)) in rw (t, u) (omega (arith, without_other n k xs apart)))
    (λ (ne : x ≢ n). let t : eqb x n ≡ false = ne_eqb x n ne in rw t (omega (arith, without_other n k xs apart)))
    (dec_eq x n)

-- what is left without n, and n itself, where it stood there once
pub times_without : (n k : ℕ) (xs : List ℕ) → times n xs ≡ 1 → times k (without n xs) + times k (n ∷ []) ≡ times k xs
times_without n k xs one = ⊎_elim
    (λ (e : n ≡ k). subst (λ (j : ℕ). times j (without n xs) + times j (n ∷ []) ≡ times j xs) e (omega (arith, without_itself n xs, times_itself n, one)))
    (λ (ne : n ≢ k). omega (arith, without_other n k xs ne, times_other n k ne))
    (dec_eq n k)
