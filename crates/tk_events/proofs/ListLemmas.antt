-- Lists, counts and totals.
use Rattle.std.proofs.Common.{◌≡◌, ◌≢◌, ℕ, zero, suc, ◌+◌, ◌<◌, ◌≤◌, true, false, List, [], ◌∷◌, ◌++◌, length, get_or, set, eqb, refl, ap, sym, ◌∙◌, subst, arith, inl, inr, ◌⊎◌, ⊎_elim, map}
use Rattle.std.specs.List.{All, AllPairs}
use Rattle.std.proofs.lemmas.List.{get_or_append_left}
use Rattle.std.proofs.lemmas.List.Elements.{All-head, All-tail}
use Rattle.std.proofs.lemmas.Bool.{eq-eqb, ne_eqb}
use mathlib.Core.Option.{some, some-ne-none}
use lib.ListN.{get_elem?}
use Rattle.atomic_table.proofs.Lists.{at_set}
use Rattle.tk_events.specs.declared.item.Offer.{Offer}
use Rattle.tk_events.specs.declared.buffer.view.Returned.{Returned}
use Rattle.tk_events.specs.Offers.{by}
use Rattle.tk_events.specs.Buffer.{numbers_known}
use Rattle.tk_cell.specs.Views.{times}
use Rattle.tk_cell.proofs.ListLemmas.{dec_eq, times_itself, times_other}

pub times_one : (n k : ℕ) → times n (k ∷ []) ≤ 1
times_one n k = ⊎_elim (λ (e : k ≡ n). let t : times n (k ∷ []) ≡ 1 = subst (λ (j : ℕ). times n (j ∷ []) ≡ 1) (sym e) (times_itself n) in omega (arith, t)) (λ (ne : k ≢ n). let t = times_other k n ne in omega (arith, t)) (dec_eq k n)

-- a number that a returned recorder has is among the numbers known
pub times_at : (rs : List Returned) (k : ℕ) (d : Returned) → k < length rs → 0 < times (get_or rs k d).number (numbers_known rs)
times_at [] k d lt = absurd (omega arith)
times_at (r ∷ rs) zero d lt = let t = times_itself r.number in omega (arith, t)
times_at (r ∷ rs) (suc k) d lt = let t = times_at rs k d (omega arith) in omega (arith, t)

module _ {V : Type 0} where
  -- what holds of a view that was set and of the others holds of all
  pub each_set : (F : V → Type 0) (views : List V) (i : ℕ) (w : V) → F w → ((j : ℕ) (u : V) → j ≢ i → get_elem? views j ≡ some u → F u) → (j : ℕ) (u : V) → get_elem? (set views i w) j ≡ some u → F u
  each_set F views i w mine others j u e = ⊎_elim
      (λ (t : (j ≡ i) × (w ≡ u)). subst F t.1 mine)
      (λ (t : (j ≢ i) × (get_elem? views j ≡ some u)). others j u t.0 t.1)
      (at_set views i j w u e)

  -- an index below the length
  pub at_below : (vs : List V) (i : ℕ) (v : V) → get_elem? vs i ≡ some v → i < length vs
  at_below [] i v e = absurd (some-ne-none v (sym e))
  at_below (x ∷ vs) zero v e = omega arith
  at_below (x ∷ vs) (suc i) v e = let h = at_below vs i v e in omega arith

module _ (p : ℕ) (o : Offer) where
  pub by_mine : o.recorder ≡ p → by p (o ∷ []) ≡ o ∷ []
  by_mine e = rw (eq-eqb o.recorder p e) refl

  pub by_other : o.recorder ≢ p → by p (o ∷ []) ≡ []
  by_other ne = rw (ne_eqb o.recorder p ne) refl

pub by_none : (p : ℕ) (os : List Offer) → All (λ o. o.recorder ≢ p) os → by p os ≡ []
by_none p [] h = refl
by_none p (o ∷ os) h = rw (ne_eqb o.recorder p (All-head (λ (x : Offer). x.recorder ≢ p) o os h)) (by_none p os (All-tail (λ (x : Offer). x.recorder ≢ p) o os h))

pub by_whole : (p : ℕ) (os : List Offer) → All (λ o. o.recorder ≡ p) os → by p os ≡ os
by_whole p [] h = refl
by_whole p (o ∷ os) h = rw (eq-eqb o.recorder p (All-head (λ (x : Offer). x.recorder ≡ p) o os h)) (ap (λ l. o ∷ l) (by_whole p os (All-tail (λ (x : Offer). x.recorder ≡ p) o os h)))

module _ {X : Type 0} where
  pub all_right : (P : X → Type 0) (xs ys : List X) → All P (xs ++ ys) → All P ys
  all_right P [] ys h = h
  all_right P (x ∷ xs) ys h = all_right P xs ys (All-tail P x (xs ++ ys) h)

  pub all_left : (P : X → Type 0) (xs ys : List X) → All P (xs ++ ys) → All P xs
  all_left P xs ys h k d lt = subst P (get_or_append_left xs ys d k lt) (h k d (grind (arith, Rattle.std.proofs.Common.length-append)))

  pub pairs_left : (R : X → X → Type 0) (xs ys : List X) → AllPairs R (xs ++ ys) → AllPairs R xs
  pairs_left R xs ys h i j d lt in' =
      let a = get_or_append_left xs ys d i (omega arith) in
      let b = get_or_append_left xs ys d j in' in
      subst (λ (t : X × X). R t.0 t.1) (λ k. (a k, b k)) (h i j d lt (grind (arith, Rattle.std.proofs.Common.length-append)))
