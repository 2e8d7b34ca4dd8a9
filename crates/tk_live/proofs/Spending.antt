-- The wakers that lines spend.
use Rattle.std.proofs.Common.{◌≡◌, ℕ, zero, suc, ◌+◌, ◌-◌, ◌<◌, ◌≤◌, ◌⊎◌, Bool, true, false, List, [], ◌∷◌, length, Option, Some, None, refl, ap, sym, ◌∙◌, arith, inl, inr, ⊎_elim}
use Rattle.std.specs.Prelude.{option_map, if◌then◌else◌}
use Rattle.std.proofs.lemmas.List.{length-map}
use Rattle.tk_live.specs.Blocks.{spends, wakers_after}
use Rattle.tk_live.specs.Items.{woken_by}
use Rattle.tk_live.specs.Named.{live_item}
use Rattle.tk_live.specs.declared.items.WakerItem.{WakerItem}
use Rattle.tk_script.specs.declared.block.WorkerLine.{WorkerLine}
use Rattle.tk_live.proofs.Handing.{some_none}
use Rattle.tk_live.proofs.Places.{live_item-map}
use Rattle.tk_live.proofs.Seating.{at, live_at, none_past_end, all_same}

-- what is there of a waker, unless it is spent
abbrev pub unless_spent : {X : Type 0} → List WorkerLine → ℕ → Option X → Option X
unless_spent ls w o = if spends w ls then None else o

-- wakers up to a number are spent where lines have their last calls, and the others are there as before
pub record SpentTo (ls : List WorkerLine) (i : ℕ) (old new : List (Option WakerItem)) : Type 0 where
  pub long : length new ≡ length old
  pub done : (w : ℕ) → w ≤ i → live_item w new ≡ unless_spent ls w (live_item w old)
  pub rest : (w : ℕ) → i < w → live_item w new ≡ live_item w old

none_unless : {X : Type 0} (ls : List WorkerLine) (w : ℕ) (o : Option X) → o ≡ None → unless_spent ls w o ≡ None
none_unless {X} ls w o is = go (spends w ls)
  where
    go : (b : Bool) → (if b then None else o) ≡ None
    go true = refl
    go false = is

module _ (ls : List WorkerLine) (old : List (Option WakerItem)) where
  -- all are
  module _ (new : List (Option WakerItem)) (was : SpentTo ls (length old) old new) where
    each : (w : ℕ) → live_item w new ≡ unless_spent ls w (live_item w old)
    each w = ⊎_elim
        (λ (le : w ≤ length old). was.done w le)
        (λ (lt : length old < w). was.rest w lt ∙ (none_past_end w old lt ∙ sym (none_unless ls w (live_item w old) (none_past_end w old lt))))
        (sides w (length old))
      where
        sides : (a b : ℕ) → (a ≤ b) ⊎ (b < a)
        sides zero b = inl (omega arith)
        sides (suc a) zero = inr (omega arith)
        sides (suc a) (suc b) = ⊎_elim (λ (t : a ≤ b). inl (omega (arith, t))) (λ (t : b < a). inr (omega (arith, t))) (sides a b)

    pub spent_left : (w : ℕ) (a : WakerItem) → live_item w new ≡ Some a → (live_item w old ≡ Some a) × (spends w ls ≡ false)
    spent_left w a there = go (spends w ls) refl (sym (each w) ∙ there)
      where
        go : (b : Bool) → spends w ls ≡ b → (if b then None else live_item w old) ≡ Some a → (live_item w old ≡ Some a) × (spends w ls ≡ false)
        go true is e = absurd (some_none a (sym e))
        go false is e = (e, is)

    after_long : (n : ℕ) (os : List (Option ℕ)) → length (wakers_after n ls os) ≡ length os
    after_long n [] = refl
    after_long n (o ∷ os) = ap suc (after_long (n + 1) os)

    after_at : (n : ℕ) (os : List (Option ℕ)) (i : ℕ) → at i (wakers_after n ls os) ≡ unless_spent ls (n + i) (at i os)
    after_at n [] i = sym (none_unless {X = ℕ} ls (n + i) None refl)
    after_at n (o ∷ os) zero = ap (λ (k : ℕ). unless_spent ls k o) (let e : n ≡ n + 0 = omega arith in e)
    after_at n (o ∷ os) (suc i) = after_at (n + 1) os i ∙ ap (λ (k : ℕ). unless_spent ls k (at i os)) (let e : n + 1 + i ≡ n + suc i = omega arith in e)

    after_live : (os : List (Option ℕ)) (w : ℕ) → live_item w (wakers_after 1 ls os) ≡ unless_spent ls w (live_item w os)
    after_live os zero = sym (none_unless {X = ℕ} ls 0 None refl)
    after_live os (suc w) =
        let e : suc w - 1 ≡ w = omega arith in
        let low : 1 ≤ suc w = omega arith in
        live_at (suc w) (wakers_after 1 ls os) low ∙ (ap (λ k. at k (wakers_after 1 ls os)) e ∙ (after_at 1 os w
        ∙ (ap (λ (k : ℕ). unless_spent ls k (at w os)) (let f : 1 + w ≡ suc w = omega arith in f) ∙ sym (ap (unless_spent ls (suc w)) (live_at (suc w) os low ∙ ap (λ k. at k os) e)))))

    pub spent_woken : woken_by new ≡ wakers_after 1 ls (woken_by old)
    spent_woken =
        let f : WakerItem → ℕ = λ a. a.task in
        all_same (woken_by new) (wakers_after 1 ls (woken_by old)) (length-map new (option_map f) ∙ (was.long ∙ (sym (length-map old (option_map f)) ∙ sym (after_long 1 (woken_by old)))))
        (λ w. live_item-map f w new ∙ (ap (option_map f) (each w) ∙ (over f (spends w ls) (live_item w old) ∙ (sym (ap (unless_spent ls w) (live_item-map f w old)) ∙ sym (after_live (woken_by old) w)))))
      where
        over : (f : WakerItem → ℕ) (b : Bool) (o : Option WakerItem) → option_map f (if b then None else o) ≡ (if b then None else option_map f o)
        over f true o = refl
        over f false o = refl
