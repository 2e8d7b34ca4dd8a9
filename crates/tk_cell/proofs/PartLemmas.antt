-- What the rule says of one part, and of all of them.
use Rattle.std.proofs.Common.{◌≡◌, ◌≢◌, ℕ, zero, suc, ◌+◌, ◌<◌, ◌≤◌, List, [], ◌∷◌, ◌++◌, Some, refl, sym, ◌∙◌, subst, arith, inl, inr, ⊎_elim}
use mathlib.Core.Option.{some, some-injective, some-ne-none}
use mathlib.Core.List.{IsPrefix}
use lib.ListN.{get_elem?}
use Rattle.tk_core.specs.declared.history.Entry.{Entry}
use Rattle.tk_core.specs.Meaning.{Meaning}
use Rattle.tk_core.specs.Legal.{maker}
use Rattle.tk_cell.specs.declared.view.View.{View}
use Rattle.tk_cell.specs.declared.part.Part.{Part}
use Rattle.tk_cell.specs.declared.part.Part.TheVariants.{Unopened, One, Two, Told, Hearing, Spent}
use Rattle.tk_cell.specs.Views.{times, Holds}
use Rattle.tk_cell.specs.Parts.{zeros, holds, IsMade, Fits, Knows, IsPart, Runs, Kept}
use Rattle.tk_cell.proofs.ListLemmas.{prefix_more, total_one, total_two}
use Rattle.tk_cell.proofs.HistoryLemmas.{own_other, maker_more}

module _ {O C R : Type 0} (m : Meaning O C R) where
  pub made_more : (n : ℕ) (h more : List (Entry C R)) → IsMade m n h → IsMade m n (h ++ more)
  made_more n h more made = ⊎_elim (λ (z : n ≡ 0). inl z) (λ (t : (c : C) × (maker m n h ≡ Some c)). inr (t.0, maker_more m n h more t.0 t.1)) made

  pub made_prefix : (n : ℕ) (seen h : List (Entry C R)) → IsPrefix seen h → IsMade m n seen → IsMade m n h
  made_prefix n seen h p made = subst (λ (l : List (Entry C R)). IsMade m n l) p.1 (made_more n seen p.0 made)

  module _ (opening : O) (h : List (Entry C R)) where
    -- a view fits a longer history in which the numbers that it holds have no new entry
    fits_more : (v : View O C R) (e : Entry C R) → ((n : ℕ) → Holds v n → e.caller ≢ n) → Fits m opening h v → Fits m opening (h ++ e ∷ []) v
    fits_more v e apart f = record {
      opened = f.opened;
      begins = prefix_more v.seen h (e ∷ []) f.begins;
      made = f.made;
      whole = λ n some_held. own_other n h e (apart n some_held) ∙ f.whole n some_held;
      itself = f.itself;
    }

    knows_more : (v : View O C R) (e : Entry C R) → Knows m opening h v → Knows m opening (h ++ e ∷ []) v
    knows_more v e k = record { opened = k.opened; begins = prefix_more v.seen h (e ∷ []) k.begins }

    -- and so does a part
    pub part_more : (p : Part O C R) (e : Entry C R) → ((n : ℕ) → 0 < holds n p → e.caller ≢ n) → IsPart m opening h p → IsPart m opening (h ++ e ∷ []) p
    part_more Unopened e apart part = part
    part_more (One v) e apart part = fits_more v e apart part
    part_more (Two v w) e apart part = (fits_more v e (λ n some_held. apart n (omega (arith, some_held))) part.0, fits_more w e (λ n some_held. apart n (omega (arith, some_held))) part.1)
    part_more (Told v) e apart part = knows_more v e part
    part_more (Hearing v w) e apart part = (fits_more v e apart part.0, knows_more w e part.1)
    part_more Spent e apart part = part

    -- a part holds no number that is not made
    pub unmade_unheld : (p : Part O C R) (n : ℕ) → (IsMade m n h → ⊥) → IsPart m opening h p → holds n p ≡ 0
    unmade_unheld Unopened n unmade part = refl
    unmade_unheld (One v) n unmade part = go (times n v.held) refl
      where
        go : (a : ℕ) → times n v.held ≡ a → a ≡ 0
        go zero is = refl
        go (suc a) is = absurd (unmade (made_prefix n v.seen h part.begins (part.made n (omega (arith, is)))))
    unmade_unheld (Two v w) n unmade part = go (times n v.held) (times n w.held) refl refl
      where
        go : (a b : ℕ) → times n v.held ≡ a → times n w.held ≡ b → a + b ≡ 0
        go zero zero is it = refl
        go (suc a) b is it = absurd (unmade (made_prefix n v.seen h part.0.begins (part.0.made n (omega (arith, is)))))
        go zero (suc b) is it = absurd (unmade (made_prefix n w.seen h part.1.begins (part.1.made n (omega (arith, it)))))
    unmade_unheld (Told v) n unmade part = refl
    unmade_unheld (Hearing v w) n unmade part = go (times n v.held) refl
      where
        go : (a : ℕ) → times n v.held ≡ a → a ≡ 0
        go zero is = refl
        go (suc a) is = absurd (unmade (made_prefix n v.seen h part.0.begins (part.0.made n (omega (arith, is)))))
    unmade_unheld Spent n unmade part = refl

  -- a part that is not `Unopened` stands where the cell is open
  pub open_runs : (x : List ℕ) (parts : List (Part O C R)) (pass : ℕ) (p : Part O C R) → p ≢ Unopened → get_elem? parts pass ≡ some p → Kept m x parts → Runs m x parts
  open_runs x parts pass p opened at kept = ⊎_elim
      (λ (k : (x ≡ zeros) × (parts ≡ Unopened ∷ [])). absurd (none pass (subst (λ (l : List (Part O C R)). get_elem? l pass ≡ some p) k.1 at)))
      (λ (r : Runs m x parts). r) kept
    where
      none : (i : ℕ) → get_elem? {A = Part O C R} (Unopened ∷ []) i ≡ some p → ⊥
      none zero e = opened (sym (some-injective Unopened p e))
      none (suc i) e = some-ne-none p (sym e)

  one_opened : (v : View O C R) → One v ≢ Unopened
  one_opened v is = cc

  -- a token's part stands where the cell is open, and its view fits the history
  pub live_runs : (x : List ℕ) (parts : List (Part O C R)) (pass : ℕ) (v : View O C R) → get_elem? parts pass ≡ some (One v) → Kept m x parts → (r : Runs m x parts) × Fits m r.opening r.history v
  live_runs x parts pass v at kept = let r = open_runs x parts pass (One v) (one_opened v) at kept in (r, r.fitting pass (One v) at)

  -- a number that a token holds is held once
  pub held_once : (x : List ℕ) (parts : List (Part O C R)) (pass : ℕ) (p : Part O C R) (r : Runs m x parts) → get_elem? parts pass ≡ some p → (n : ℕ) → holds n p ≤ 1
  held_once x parts pass p r at n = let a = total_one (holds n) parts pass p at in let b = r.once n in omega (arith, a, b)

  -- and in no other part
  pub held_here : (x : List ℕ) (parts : List (Part O C R)) (i pass : ℕ) (p q : Part O C R) (r : Runs m x parts) → i ≢ pass → get_elem? parts i ≡ some p → get_elem? parts pass ≡ some q → (n : ℕ) → holds n p + holds n q ≤ 1
  held_here x parts i pass p q r ne at_i at n = let a = total_two (holds n) parts i pass p q ne at_i at in let b = r.once n in omega (arith, a, b)
