-- The swap that sets the opening row keeps the rule.
use Rattle.std.proofs.Common.{◌≡◌, ◌≢◌, ℕ, zero, suc, ◌<◌, List, [], ◌∷◌, set, Some, refl, ap, sym, ◌∙◌, subst, arith, inl, inr, ⊎_elim}
use mathlib.Core.Option.{some, some-injective, some-ne-none}
use lib.ListN.{get_elem?}
use Rattle.crossbeam_utils.specs.Register.{Turns}
use Rattle.tk_core.specs.Meaning.{Meaning, BeginsAtOpening}
use Rattle.tk_cell.specs.declared.part.Part.{Part}
use Rattle.tk_cell.specs.declared.part.Part.TheVariants.{Unopened, One}
use Rattle.tk_cell.specs.Views.{times, opened}
use Rattle.tk_cell.specs.Parts.{zeros, Fits, IsPart, Runs, Kept}
use Rattle.tk_cell.specs.Steps.{OpensAt}
use Rattle.tk_cell.proofs.ListLemmas.{not_nil, dec_eq, times_itself, times_other}

module _ {O C R : Type 0} (m : Meaning O C R) (law : BeginsAtOpening m) where
  only_itself : (n : ℕ) → 0 < times n (0 ∷ []) → n ≡ 0
  only_itself n some_held = ⊎_elim (λ (e : 0 ≡ n). sym e) (λ (ne : 0 ≢ n). let z = times_other 0 n ne in absurd (omega (arith, z, some_held))) (dec_eq 0 n)

  opened_fits : (row : O) → Fits m row [] (opened row)
  opened_fits row = record {
    opened = refl;
    begins = ([], refl);
    made = λ n some_held. inl (only_itself n some_held);
    whole = λ n some_held. refl;
    itself = let t = times_itself 0 in omega (arith, t);
  }

  opened_runs : (row : O) (words : List ℕ) → m.IsOpening row → words ≡ m.words row → Runs m words (One (opened row) ∷ [])
  opened_runs row words opens ws = record {
    opening = row;
    history = [];
    opens = opens;
    legal = λ before after e cut. absurd (not_nil before after e cut);
    words_are = ap m.words (law row opens) ∙ sym ws;
    fitting = fitting;
    once = λ n. ⊎_elim (λ (e : 0 ≡ n). let t : times n (0 ∷ []) ≡ 1 = subst (λ (k : ℕ). times k (0 ∷ []) ≡ 1) e (times_itself 0) in omega (arith, t)) (λ (ne : 0 ≢ n). let z = times_other 0 n ne in omega (arith, z)) (dec_eq 0 n);
  }
    where
      fitting : (i : ℕ) (p : Part O C R) → get_elem? (One (opened row) ∷ []) i ≡ some p → IsPart m row [] p
      fitting zero p e = subst (λ (q : Part O C R). IsPart m row [] q) (some-injective (One (opened row)) p e) (opened_fits row)
      fitting (suc i) p e = absurd (some-ne-none p (sym e))

  pub opens_turns : (pass : ℕ) (p : Part O C R) (row : O) (words : List ℕ) → p ≡ Unopened → m.IsOpening row → words ≡ m.words row
      → Turns (Kept m) pass p (λ _. words) (OpensAt (Some row))
  opens_turns pass p row words is opens ws x parts kept at = ⊎_elim
      (λ (k : (x ≡ zeros) × (parts ≡ Unopened ∷ [])). subst (λ (l : List (Part O C R)). (q : Part O C R) × Kept m words (set l pass q) × (q ≡ One (opened row))) (sym k.1)
      (first pass (subst (λ (l : List (Part O C R)). get_elem? l pass ≡ some p) k.1 at)))
      (λ (r : Runs m x parts). absurd (subst (λ (q : Part O C R). IsPart m r.opening r.history q) is (r.fitting pass p at))) kept
    where
      first : (i : ℕ) → get_elem? {A = Part O C R} (Unopened ∷ []) i ≡ some p → (q : Part O C R) × Kept m words (set (Unopened ∷ []) i q) × (q ≡ One (opened row))
      first zero e = (One (opened row), inr (opened_runs row words opens ws), refl)
      first (suc i) e = absurd (some-ne-none p (sym e))
