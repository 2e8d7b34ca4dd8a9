-- A part is cut in two: a number goes to a token of its own, or the whole view is handed on.
use Rattle.std.proofs.Common.{◌≡◌, ◌≢◌, ℕ, ◌+◌, List, [], ◌∷◌, ◌++◌, set, Some, ap, sym, subst, arith, inr, ⊎_elim}
use mathlib.Core.Option.{some}
use lib.ListN.{get_elem?}
use Rattle.crossbeam_utils.specs.Register.{Forks}
use Rattle.atomic_table.proofs.Lists.{at_set, at_snoc}
use Rattle.atomic_table.specs.Seated.{TableId}
use Rattle.tk_core.specs.Meaning.{Meaning}
use Rattle.tk_cell.specs.declared.view.View.{View}
use Rattle.tk_cell.specs.declared.part.Part.{Part}
use Rattle.tk_cell.specs.declared.part.Part.TheVariants.{One, Spent}
use Rattle.tk_cell.specs.Views.{times, without, Holds, after_split, split_off, Known, known}
use Rattle.tk_cell.specs.Parts.{view_of, holds, IsOne, left_of, right_of, Fits, IsPart, Runs, Kept}
use Rattle.tk_cell.proofs.ListLemmas.{total_set, total_snoc, times_itself, times_without, without_other}
use Rattle.tk_cell.proofs.PartLemmas.{live_runs, held_once}

module _ {O C R : Type 0} (m : Meaning O C R) where
  -- the rule stays where each of the two halves fits, and they hold together what the part held
  pub fork_runs : (x : List ℕ) (parts : List (Part O C R)) (pass : ℕ) (p left right : Part O C R) (r : Runs m x parts) → get_elem? parts pass ≡ some p → IsPart m r.opening r.history left → IsPart m r.opening r.history right
      → ((k : ℕ) → holds k left + holds k right ≡ holds k p) → Runs m x (set parts pass left ++ right ∷ [])
  fork_runs x parts pass p left right r at left_fits right_fits sums = record {
    opening = r.opening;
    history = r.history;
    opens = r.opens;
    legal = r.legal;
    words_are = r.words_are;
    fitting = λ i u e. ⊎_elim
        (λ was. ⊎_elim (λ (t : (i ≡ pass) × (left ≡ u)). subst (λ (y : Part O C R). IsPart m r.opening r.history y) t.1 left_fits) (λ (t : (i ≢ pass) × (get_elem? parts i ≡ some u)). r.fitting i u t.1) (at_set parts pass i left u was))
        (λ (t : right ≡ u). subst (λ (y : Part O C R). IsPart m r.opening r.history y) t right_fits)
        (at_snoc (set parts pass left) right u i e);
    once = λ k. let s = total_snoc (holds k) (set parts pass left) right in let t = total_set (holds k) parts pass p left at in let o = r.once k in let h = sums k in omega (arith, s, t, o, h);
  }

  -- a view is handed to another pass whole
  hands_over_one : (pass : ℕ) (v : View O C R) → Forks (Kept m) pass (One v) Spent (One v)
  hands_over_one pass v x parts kept at =
      let here = live_runs m x parts pass v at kept in
      inr (fork_runs x parts pass (One v) Spent (One v) here.0 at tt here.1 (λ k. omega arith))

  pub hands_over : (pass : ℕ) (p : Part O C R) → IsOne p → Forks (Kept m) pass p Spent p
  hands_over pass p one = subst (λ (q : Part O C R). Forks (Kept m) pass q Spent q) (sym one) (hands_over_one pass (view_of p))

  -- a number that is held goes to a token of its own
  splits_one : (pass : ℕ) (v : View O C R) (n : ℕ) → Holds v n → n ≢ v.caller → Forks (Kept m) pass (One v) (One (after_split n v)) (One (split_off n v))
  splits_one pass v n some_held ne x parts kept at =
      let here = live_runs m x parts pass v at kept in let r = here.0 in let f = here.1 in
      let one : times n v.held ≡ 1 = let a = held_once m x parts pass (One v) r at n in omega (arith, a, some_held) in
      let split : (k : ℕ) → times k (without n v.held) + times k (n ∷ []) ≡ times k v.held = λ k. times_without n k v.held one in
      let left_fits : Fits m r.opening r.history (after_split n v) = record {
        opened = f.opened;
        begins = f.begins;
        made = λ k h. let s = split k in f.made k (omega (arith, s, h));
        whole = λ k h. let s = split k in f.whole k (omega (arith, s, h));
        itself = let w = without_other n v.caller v.held ne in let c = f.itself in omega (arith, w, c);
      } in
      let right_fits : Fits m r.opening r.history (split_off n v) = record {
        opened = f.opened;
        begins = f.begins;
        made = λ k h. let s = split k in f.made k (omega (arith, s, h));
        whole = λ k h. let s = split k in f.whole k (omega (arith, s, h));
        itself = let t = times_itself n in omega (arith, t);
      } in
      inr (fork_runs x parts pass (One v) (One (after_split n v)) (One (split_off n v)) r at left_fits right_fits split)

  pub token_splits : (pass : ℕ) (ledger : TableId) (p : Part O C R) (k : Known O C R) (n : ℕ) → known ledger (view_of p) ≡ k → IsOne p → Holds k.view n → n ≢ k.view.caller → Forks (Kept m) pass p (left_of (Some n) p) (right_of (Some n) p)
  token_splits pass ledger p k n is one some_held ne =
      let same : k.view ≡ view_of p = sym (ap (λ (a : Known O C R). a.view) is) in
      subst (λ (q : Part O C R). Forks (Kept m) pass q (One (after_split n (view_of p))) (One (split_off n (view_of p)))) (sym one)
      (splits_one pass (view_of p) n (subst (λ (u : View O C R). Holds u n) same some_held) (subst (λ (u : View O C R). n ≢ u.caller) same ne))
