-- A token tells what it has seen, another one hears it, two tokens meet, and a token goes on as another caller that it holds.
use Rattle.std.proofs.Common.{◌≡◌, ◌≢◌, ℕ, ◌<◌, ◌≤◌, List, length, set, Some, refl, ap, sym, ◌∙◌, subst, arith, inl, inr, ◌⊎◌, ⊎_elim}
use Rattle.std.proofs.lemmas.Bool.{cases_lt}
use mathlib.Core.Option.{some}
use mathlib.Core.List.{IsPrefix}
use lib.ListN.{get_elem?}
use Rattle.crossbeam_utils.specs.Register.{Turns, Forks, Merges}
use Rattle.atomic_table.proofs.Lists.{at_set}
use Rattle.atomic_table.specs.Seated.{TableId}
use Rattle.tk_core.specs.declared.history.Entry.{Entry}
use Rattle.tk_core.specs.Meaning.{Meaning}
use Rattle.tk_cell.specs.declared.view.View.{View}
use Rattle.tk_cell.specs.declared.part.Part.{Part}
use Rattle.tk_cell.specs.declared.part.Part.TheVariants.{One, Two, Told, Hearing, Spent}
use Rattle.tk_cell.specs.Views.{Holds, Known, known, as_caller, unheld}
use Rattle.tk_cell.specs.Parts.{view_of, other_of, holds, IsOne, IsTold, IsTwo, taken_in, told_of, hearing, gone_on, first_of, second_of, Fits, Knows, IsPart, Runs, Kept}
use Rattle.tk_cell.specs.Steps.{HearsAt, MeetsAt}
use Rattle.tk_cell.proofs.ListLemmas.{prefix_self, prefix_shorter, total_set, times-append}
use Rattle.tk_cell.proofs.HistoryLemmas.{own_between, prefix_is_legal}
use Rattle.tk_cell.proofs.PartLemmas.{made_prefix, open_runs, live_runs, held_once}
use Rattle.tk_cell.proofs.SplitLemmas.{fork_runs}

module _ {O C R : Type 0} (m : Meaning O C R) where
  -- the rule stays where a part becomes one that fits and holds the same
  set_runs : (x : List ℕ) (parts : List (Part O C R)) (pass : ℕ) (p u : Part O C R) (r : Runs m x parts) → get_elem? parts pass ≡ some p → IsPart m r.opening r.history u
      → ((k : ℕ) → holds k u ≡ holds k p) → Runs m x (set parts pass u)
  set_runs x parts pass p u r at fits same = record {
    opening = r.opening;
    history = r.history;
    opens = r.opens;
    legal = r.legal;
    words_are = r.words_are;
    fitting = λ i y e. ⊎_elim (λ (t : (i ≡ pass) × (u ≡ y)). subst (λ (z : Part O C R). IsPart m r.opening r.history z) t.1 fits)
        (λ (t : (i ≢ pass) × (get_elem? parts i ≡ some y)). r.fitting i y t.1) (at_set parts pass i u y e);
    once = λ k. let t = total_set (holds k) parts pass p u at in let o = r.once k in let s = same k in omega (arith, t, o, s);
  }

  -- ---- telling

  tells_one : (pass : ℕ) (v : View O C R) → Forks (Kept m) pass (One v) (One v) (Told (unheld v))
  tells_one pass v x parts kept at =
      let here = live_runs m x parts pass v at kept in let f = here.1 in
      inr (fork_runs m x parts pass (One v) (One v) (Told (unheld v)) here.0 at f (record { opened = f.opened; begins = f.begins }) (λ k. omega arith))

  pub tells : (pass : ℕ) (p : Part O C R) → IsOne p → Forks (Kept m) pass p p (told_of p)
  tells pass p one = subst (λ (q : Part O C R). Forks (Kept m) pass q q (Told (unheld (view_of p)))) (sym one) (tells_one pass (view_of p))

  -- ---- going on as another caller

  goes_on_one : (pass : ℕ) (v : View O C R) (n : ℕ) → Holds v n → Forks (Kept m) pass (One v) (One (as_caller n v)) Spent
  goes_on_one pass v n some_held x parts kept at =
      let here = live_runs m x parts pass v at kept in let r = here.0 in let f = here.1 in
      let fits : Fits m r.opening r.history (as_caller n v) = record { opened = f.opened; begins = f.begins; made = f.made; whole = f.whole; itself = some_held } in
      inr (fork_runs m x parts pass (One v) (One (as_caller n v)) Spent r at fits tt (λ k. omega arith))

  pub goes_on : (pass : ℕ) (ledger : TableId) (p : Part O C R) (k : Known O C R) (n : ℕ) → known ledger (view_of p) ≡ k → IsOne p → Holds k.view n → Forks (Kept m) pass p (gone_on (Some n) p) Spent
  goes_on pass ledger p k n is one some_held =
      let same : k.view ≡ view_of p = sym (ap (λ (a : Known O C R). a.view) is) in
      subst (λ (q : Part O C R). Forks (Kept m) pass q (One (as_caller n (view_of p))) Spent) (sym one)
      (goes_on_one pass (view_of p) n (subst (λ (u : View O C R). Holds u n) same some_held))

  -- ---- parting

  parts_two : (pass : ℕ) (v w : View O C R) → Forks (Kept m) pass (Two v w) (One v) (One w)
  parts_two pass v w x parts kept at =
      let r = open_runs m x parts pass (Two v w) (λ is. cc) at kept in let f = r.fitting pass (Two v w) at in
      inr (fork_runs m x parts pass (Two v w) (One v) (One w) r at f.0 f.1 (λ k. refl))

  pub parts_again : (pass : ℕ) (p : Part O C R) → IsTwo p → Forks (Kept m) pass p (first_of p) (second_of p)
  parts_again pass p two = subst (λ (q : Part O C R). Forks (Kept m) pass q (One (view_of p)) (One (other_of p))) (sym two) (parts_two pass (view_of p) (other_of p))

  -- ---- hearing

  hears_one : (pass : ℕ) (v : View O C R) (other : ℕ) (w : View O C R) → Merges (Kept m) pass (One v) other (Told w) (Hearing v w) Spent
  hears_one pass v other w x parts kept at apart at_other =
      let here = live_runs m x parts pass v at kept in let r = here.0 in let f = here.1 in
      let was : get_elem? parts other ≡ some (Told w) = ⊎_elim (λ (t : (other ≡ pass) × (Hearing v w ≡ Told w)). absurd (apart t.0)) (λ (t : (other ≢ pass) × (get_elem? parts other ≡ some (Told w))). t.1) (at_set parts pass other (Hearing v w) (Told w) at_other) in
      let g : Knows m r.opening r.history w = r.fitting other (Told w) was in
      let with_both = set_runs x parts pass (One v) (Hearing v w) r at (f, g) (λ k. refl) in
      inr (set_runs x (set parts pass (Hearing v w)) other (Told w) Spent with_both at_other tt (λ k. refl))

  pub hears : (pass : ℕ) (p : Part O C R) (other : ℕ) (q : Part O C R) → IsOne p → IsTold q → Merges (Kept m) pass p other q (hearing p q) Spent
  hears pass p other q one_p told_q =
      subst (λ (a : Part O C R). Merges (Kept m) pass a other q (Hearing (view_of p) (view_of q)) Spent) (sym one_p)
      (subst (λ (b : Part O C R). Merges (Kept m) pass (One (view_of p)) other b (Hearing (view_of p) (view_of q)) Spent) (sym told_q) (hears_one pass (view_of p) other (view_of q)))

  -- ---- learning which has seen more

  -- a view with a longer history
  abbrev with_seen : View O C R → List (Entry C R) → View O C R
  with_seen v long = record v { seen = long }

  fits_longer : (opening : O) (h long : List (Entry C R)) (v : View O C R) → Fits m opening h v → IsPrefix v.seen long → IsPrefix long h → Fits m opening h (with_seen v long)
  fits_longer opening h long v f p l = record {
    opened = f.opened;
    begins = l;
    made = λ n some_held. made_prefix m n v.seen long p (f.made n some_held);
    whole = λ n some_held. f.whole n some_held ∙ sym (own_between n v.seen long h p l (f.whole n some_held));
    itself = f.itself;
  }

  -- of two beginnings the longer one
  longest : (h a b : List (Entry C R)) → IsPrefix a h → IsPrefix b h → (long : List (Entry C R)) × IsPrefix a long × IsPrefix b long × IsPrefix long h × ((IsPrefix a b × (long ≡ b)) ⊎ (IsPrefix b a × (long ≡ a)))
  longest h a b p q = ⊎_elim
      (λ (lt : length a < length b). let s = prefix_shorter a b h p q (omega arith) in (b, s, prefix_self b, q, inl (s, refl)))
      (λ (ge : length b ≤ length a). let s = prefix_shorter b a h q p ge in (a, prefix_self a, s, p, inr (s, refl)))
      (cases_lt (length a) (length b))

  hears_two : (pass : ℕ) (v w : View O C R) → Turns (Kept m) pass (Hearing v w) (λ x. x) (HearsAt m)
  hears_two pass v w x parts kept at =
      let r = open_runs m x parts pass (Hearing v w) (λ is. cc) at kept in
      let both = r.fitting pass (Hearing v w) at in let f = both.0 in let g = both.1 in
      let l = longest r.history v.seen w.seen f.begins g.begins in
      let u = with_seen v l.0 in
      let fits : Fits m r.opening r.history u = fits_longer r.opening r.history l.0 v f l.1 l.3 in (
        One u,
        inr (set_runs x parts pass (Hearing v w) (One u) r at fits (λ k. refl)),
        (
          (refl, refl),
          record {
            opening = r.opening;
            opened = f.opened;
            same = g.opened;
            opens = r.opens;
            longer = l.4;
            legal = prefix_is_legal m r.opening l.0 r.history l.3 r.legal;
            mine = λ n some_held. own_between n v.seen l.0 r.history l.1 l.3 (f.whole n some_held);
            now_held = refl;
            same_caller = refl;
            same_opening = refl;
            holds_itself = f.itself;
            distinct = λ n. held_once m x parts pass (Hearing v w) r at n;
          },
        ),
      )

  -- the load after what was told was taken in
  pub hears_turns : (pass : ℕ) (p a b : Part O C R) → p ≡ hearing a b → Turns (Kept m) pass p (λ x. x) (HearsAt m)
  hears_turns pass p a b is = subst (λ (q : Part O C R). Turns (Kept m) pass q (λ x. x) (HearsAt m)) (sym is) (hears_two pass (view_of a) (view_of b))

  meets_two : (pass : ℕ) (v w : View O C R) → Turns (Kept m) pass (Two v w) (λ x. x) (MeetsAt m)
  meets_two pass v w x parts kept at =
      let r = open_runs m x parts pass (Two v w) (λ is. cc) at kept in
      let both = r.fitting pass (Two v w) at in let f = both.0 in let g = both.1 in
      let l = longest r.history v.seen w.seen f.begins g.begins in
      let a = with_seen v l.0 in let b = with_seen w l.0 in (
        Two a b,
        inr (set_runs x parts pass (Two v w) (Two a b) r at (fits_longer r.opening r.history l.0 v f l.1 l.3, fits_longer r.opening r.history l.0 w g l.2 l.3) (λ k. refl)),
        (
          refl,
          record {
            opening = r.opening;
            opened = f.opened;
            same = g.opened;
            opens = r.opens;
            longer = l.4;
            legal = prefix_is_legal m r.opening l.0 r.history l.3 r.legal;
            first = λ n some_held. own_between n v.seen l.0 r.history l.1 l.3 (f.whole n some_held);
            second = λ n some_held. own_between n w.seen l.0 r.history l.2 l.3 (g.whole n some_held);
            first_is = refl;
            second_is = refl;
            holds_itself = f.itself;
            other_holds_itself = g.itself;
            distinct = λ n. let s = times-append n v.held w.held in let o = held_once m x parts pass (Two v w) r at n in omega (arith, s, o);
          },
        ),
      )

  -- the load at which two tokens meet
  pub meets_turns : (pass : ℕ) (p a b : Part O C R) → p ≡ taken_in a b → Turns (Kept m) pass p (λ x. x) (MeetsAt m)
  meets_turns pass p a b is = subst (λ (q : Part O C R). Turns (Kept m) pass q (λ x. x) (MeetsAt m)) (sym is) (meets_two pass (view_of a) (view_of b))
