-- A part takes in another one, and the load after it makes one view of the two.
use Rattle.std.proofs.Common.{◌≡◌, ◌≢◌, ℕ, ◌<◌, ◌≤◌, List, ◌++◌, length, set, refl, sym, ◌∙◌, subst, arith, inl, inr, ◌⊎◌, ⊎_elim}
use Rattle.std.proofs.lemmas.Bool.{cases_lt}
use mathlib.Core.Option.{some}
use mathlib.Core.List.{IsPrefix}
use lib.ListN.{get_elem?}
use Rattle.crossbeam_utils.specs.Register.{Turns, Merges}
use Rattle.atomic_table.proofs.Lists.{at_set}
use Rattle.tk_core.specs.declared.history.Entry.{Entry}
use Rattle.tk_core.specs.Meaning.{Meaning}
use Rattle.tk_core.specs.Legal.{own}
use Rattle.tk_cell.specs.declared.view.View.{View}
use Rattle.tk_cell.specs.declared.part.Part.{Part}
use Rattle.tk_cell.specs.declared.part.Part.TheVariants.{Unopened, One, Two, Spent}
use Rattle.tk_cell.specs.Views.{times, Holds}
use Rattle.tk_cell.specs.Parts.{view_of, holds, IsOne, taken_in, Fits, IsPart, Runs, Kept}
use Rattle.tk_cell.specs.Steps.{SettlesAt}
use Rattle.tk_cell.proofs.ListLemmas.{prefix_self, prefix_shorter, total_set, times-append}
use Rattle.tk_cell.proofs.HistoryLemmas.{own_between, prefix_is_legal}
use Rattle.tk_cell.proofs.PartLemmas.{made_prefix, open_runs, live_runs, held_once}

module _ {O C R : Type 0} (m : Meaning O C R) where
  takes_in_one : (pass : ℕ) (v : View O C R) (other : ℕ) (w : View O C R) → Merges (Kept m) pass (One v) other (One w) (Two v w) Spent
  takes_in_one pass v other w x parts kept at apart at_other =
      let here = live_runs m x parts pass v at kept in let r = here.0 in let f = here.1 in
      let was : get_elem? parts other ≡ some (One w) = ⊎_elim (λ (t : (other ≡ pass) × (Two v w ≡ One w)). absurd (apart t.0)) (λ (t : (other ≢ pass) × (get_elem? parts other ≡ some (One w))). t.1) (at_set parts pass other (Two v w) (One w) at_other) in
      let g : Fits m r.opening r.history w = r.fitting other (One w) was in
      inr (record {
        opening = r.opening;
        history = r.history;
        opens = r.opens;
        legal = r.legal;
        words_are = r.words_are;
        fitting = λ i u e. ⊎_elim
            (λ (t : (i ≡ other) × (Spent ≡ u)). subst (λ (y : Part O C R). IsPart m r.opening r.history y) t.1 tt)
            (λ (t : (i ≢ other) × (get_elem? (set parts pass (Two v w)) i ≡ some u)). ⊎_elim
            (λ (s : (i ≡ pass) × (Two v w ≡ u)). subst (λ (y : Part O C R). IsPart m r.opening r.history y) s.1 (f, g))
            (λ (s : (i ≢ pass) × (get_elem? parts i ≡ some u)). r.fitting i u s.1)
            (at_set parts pass i (Two v w) u t.1))
            (at_set (set parts pass (Two v w)) other i Spent u e);
        once = λ k. let s = total_set (holds k) (set parts pass (Two v w)) other (One w) Spent at_other in let t = total_set (holds k) parts pass (One v) (Two v w) at in let o = r.once k in omega (arith, s, t, o);
      })

  pub takes_in : (pass : ℕ) (p : Part O C R) (other : ℕ) (q : Part O C R) → IsOne p → IsOne q → Merges (Kept m) pass p other q (taken_in p q) Spent
  takes_in pass p other q one_p one_q =
      subst (λ (a : Part O C R). Merges (Kept m) pass a other q (Two (view_of p) (view_of q)) Spent) (sym one_p)
      (subst (λ (b : Part O C R). Merges (Kept m) pass (One (view_of p)) other b (Two (view_of p) (view_of q)) Spent) (sym one_q) (takes_in_one pass (view_of p) other (view_of q)))

  -- a view with the longer history in the place of both
  abbrev joined : View O C R → View O C R → List (Entry C R) → View O C R
  joined v w seen = record v { seen = seen; held = v.held ++ w.held }

  module _ (pass : ℕ) (v w : View O C R) (x : List ℕ) (parts : List (Part O C R)) (r : Runs m x parts) (at : get_elem? parts pass ≡ some (Two v w)) where
    f : Fits m r.opening r.history v
    f = (r.fitting pass (Two v w) at).0

    g : Fits m r.opening r.history w
    g = (r.fitting pass (Two v w) at).1

    settles_to : (long : List (Entry C R)) → IsPrefix v.seen long → IsPrefix w.seen long → IsPrefix long r.history
        → (IsPrefix v.seen w.seen × (long ≡ w.seen)) ⊎ (IsPrefix w.seen v.seen × (long ≡ v.seen))
        → (q : Part O C R) × Kept m x (set parts pass q) × SettlesAt m (Two v w) x x q
    settles_to long p q l longer =
        let u : View O C R = joined v w long in
        let first : (n : ℕ) → Holds v n → own n long ≡ own n v.seen = λ n h. own_between n v.seen long r.history p l (f.whole n h) in
        let second : (n : ℕ) → Holds w n → own n long ≡ own n w.seen = λ n h. own_between n w.seen long r.history q l (g.whole n h) in
        let fits : Fits m r.opening r.history u = record {
          opened = f.opened;
          begins = l;
          made = λ n h. ⊎_elim
              (λ (some_held : 0 < times n v.held). made_prefix m n v.seen long p (f.made n some_held))
              (λ (none : times n v.held ≤ 0). let a = times-append n v.held w.held in made_prefix m n w.seen long q (g.made n (omega (arith, a, h, none))))
              (cases_lt 0 (times n v.held));
          whole = λ n h. ⊎_elim
              (λ (some_held : 0 < times n v.held). f.whole n some_held ∙ sym (first n some_held))
              (λ (none : times n v.held ≤ 0). let a = times-append n v.held w.held in let some_held : 0 < times n w.held = omega (arith, a, h, none) in g.whole n some_held ∙ sym (second n some_held))
              (cases_lt 0 (times n v.held));
          itself = let a = times-append v.caller v.held w.held in let c = f.itself in omega (arith, a, c);
        } in (
          One u,
          inr (record {
            opening = r.opening;
            history = r.history;
            opens = r.opens;
            legal = r.legal;
            words_are = r.words_are;
            fitting = λ i y e. ⊎_elim (λ (t : (i ≡ pass) × (One u ≡ y)). subst (λ (z : Part O C R). IsPart m r.opening r.history z) t.1 fits)
                (λ (t : (i ≢ pass) × (get_elem? parts i ≡ some y)). r.fitting i y t.1) (at_set parts pass i (One u) y e);
            once = λ k. let a = times-append k v.held w.held in let t = total_set (holds k) parts pass (Two v w) (One u) at in let o = r.once k in omega (arith, a, t, o);
          }),
          (
            (refl, refl),
            record {
              opening = r.opening;
              opened = f.opened;
              same = g.opened;
              opens = r.opens;
              longer = longer;
              legal = prefix_is_legal m r.opening long r.history l r.legal;
              first = first;
              second = second;
              now_held = refl;
              same_caller = refl;
              same_opening = refl;
              holds_itself = f.itself;
              other_holds_itself = g.itself;
              still_distinct = λ n. let a = times-append n v.held w.held in let b = held_once m x parts pass (Two v w) r at n in omega (arith, a, b);
            },
          ),
        )

    settle_step : (q : Part O C R) × Kept m x (set parts pass q) × SettlesAt m (Two v w) x x q
    settle_step = ⊎_elim
        (λ (lt : length v.seen < length w.seen). let p = prefix_shorter v.seen w.seen r.history f.begins g.begins (omega arith) in
        settles_to w.seen p (prefix_self w.seen) g.begins (inl (p, refl)))
        (λ (ge : length w.seen ≤ length v.seen). let p = prefix_shorter w.seen v.seen r.history g.begins f.begins ge in
        settles_to v.seen (prefix_self v.seen) p f.begins (inr (p, refl)))
        (cases_lt (length v.seen) (length w.seen))

  two_opened : (v w : View O C R) → Two v w ≢ Unopened
  two_opened v w is = cc

  settles_two : (pass : ℕ) (v w : View O C R) → Turns (Kept m) pass (Two v w) (λ x. x) (SettlesAt m)
  settles_two pass v w x parts kept at = settle_step pass v w x parts (open_runs m x parts pass (Two v w) (two_opened v w) at kept) at

  -- the load after a token was taken in
  pub settles_turns : (pass : ℕ) (p a b : Part O C R) → p ≡ taken_in a b → Turns (Kept m) pass p (λ x. x) (SettlesAt m)
  settles_turns pass p a b is = subst (λ (q : Part O C R). Turns (Kept m) pass q (λ x. x) (SettlesAt m)) (sym is) (settles_two pass (view_of a) (view_of b))
