-- A call keeps the rule: as a load that changes no word, and as an exchange.
use Rattle.std.proofs.Common.{◌≡◌, ◌≢◌, ℕ, ◌<◌, ◌≤◌, Bool, true, false, List, [], ◌∷◌, ◌++◌, set, if◌then◌else◌, eqb, Option, Some, None, refl, ap, sym, ◌∙◌, subst, arith, inl, inr, ◌⊎◌, ⊎_elim, true≢false, nat_eq}
use Rattle.std.proofs.lemmas.List.{map-append}
use mathlib.Core.Option.{some}
use lib.ListN.{get_elem?}
use lib.Pointwise.{pointwise, bytes_decides}
use Rattle.crossbeam_utils.specs.Register.{Turns}
use Rattle.atomic_table.proofs.Lists.{at_set, set_again}
use Rattle.atomic_table.specs.Seated.{TableId}
use Rattle.tk_core.specs.declared.history.Entry.{Entry}
use Rattle.tk_core.specs.Lists.{total}
use Rattle.tk_core.specs.Meaning.{Meaning, NumbersAreNew, StepsTo, IsRowOf}
use Rattle.tk_core.specs.History.{calls_of}
use Rattle.tk_core.specs.Legal.{own, maker, may_call, has_ended, MayFollow, IsLegal}
use Rattle.tk_cell.specs.declared.view.View.{View}
use Rattle.tk_cell.specs.declared.part.Part.{Part}
use Rattle.tk_cell.specs.declared.part.Part.TheVariants.{One}
use Rattle.tk_cell.specs.Views.{times, list_of, IsDistinct, Known, known}
use Rattle.tk_cell.specs.Calls.{entry, Calls}
use Rattle.tk_cell.specs.Parts.{view_of, holds, IsOne, IsMade, Fits, IsPart, Runs, Kept}
use Rattle.tk_cell.specs.Steps.{LooksAt, ExchangesAt, LeadsTo}
use Rattle.tk_cell.proofs.ListLemmas.{prefix_self, dec_eq, total_set, total_none, times-append, times_itself, times_other}
use Rattle.tk_cell.proofs.HistoryLemmas.{own_mine, own_other, maker_last, may_more, ended_same, legal_snoc, own_unmade, new_number}
use Rattle.tk_cell.proofs.PartLemmas.{made_more, made_prefix, part_more, unmade_unheld, live_runs, held_once, held_here}

-- a number stands in the list of the number that is drawn where it is that one
pub list_times : (n : ℕ) (o : Option ℕ) → ((o ≡ Some n) × (times n (list_of o) ≡ 1)) ⊎ (times n (list_of o) ≡ 0)
list_times n None = inr refl
list_times n (Some k) = ⊎_elim (λ (e : k ≡ n). inl (ap Some e, subst (λ (j : ℕ). times n (j ∷ []) ≡ 1) (sym e) (times_itself n))) (λ (ne : k ≢ n). inr (times_other k n ne)) (dec_eq k n)

module _ {O C R : Type 0} (m : Meaning O C R) where
  -- the view after a call that came after this history
  abbrev pub entered : View O C R → List (Entry C R) → C → R → View O C R
  entered v h call reply = record v { seen = h ++ entry v.caller call reply ∷ []; held = v.held ++ list_of (m.number reply) }

  module _ (law : NumbersAreNew m) (pass : ℕ) (v : View O C R) (call : C) (may : may_call m v.seen v.caller call ≡ true) (going : has_ended m v.seen v.caller ≡ false) where
    module _ (x : List ℕ) (parts : List (Part O C R)) (r : Runs m x parts) (at : get_elem? parts pass ≡ some (One v)) (fits : Fits m r.opening r.history v) where
      abbrev reply : R
      reply = m.reply_after r.opening (calls_of r.history) call

      abbrev new : Entry C R
      new = entry v.caller call reply

      abbrev next : View O C R
      next = entered v r.history call reply

      same_own : own v.caller r.history ≡ own v.caller v.seen
      same_own = fits.whole v.caller fits.itself

      follows : MayFollow m r.opening r.history new
      follows = record {
        reply = refl;
        role = subst (λ (l : List (Entry C R)). may_call m l v.caller call ≡ true) fits.begins.1 (may_more m v.caller v.seen fits.begins.0 call may);
        going = ended_same m v.caller r.history v.seen same_own ∙ going;
      }

      legal : IsLegal m r.opening (r.history ++ new ∷ [])
      legal = legal_snoc m r.opening r.history new r.legal follows

      -- a number that is answered
      fresh_number : (n : ℕ) → m.number reply ≡ Some n → (n ≢ 0) × (maker m n r.history ≡ None)
      fresh_number n is = new_number m r.opening law r.opens r.history r.legal call n is

      unmade : (n : ℕ) → m.number reply ≡ Some n → IsMade m n r.history → ⊥
      unmade n is made = let f = fresh_number n is in ⊎_elim f.0 (λ (t : (c : C) × (maker m n r.history ≡ Some c)). let a = t.1 in let b = f.1 in cc) made

      not_caller : (n : ℕ) → m.number reply ≡ Some n → v.caller ≢ n
      not_caller n is same = unmade n is (made_prefix m n v.seen r.history fits.begins (subst (λ (k : ℕ). IsMade m k v.seen) same (fits.made v.caller fits.itself)))

      -- no part holds a number that is answered
      unheld : (n : ℕ) → m.number reply ≡ Some n → (i : ℕ) (p : Part O C R) → get_elem? parts i ≡ some p → holds n p ≡ 0
      unheld n is i p e = unmade_unheld m r.opening r.history p n (unmade n is) (r.fitting i p e)

      once : (n : ℕ) → total (holds n) (set parts pass (One next)) ≤ 1
      once n =
          let t = total_set (holds n) parts pass (One v) (One next) at in let a = times-append n v.held (list_of (m.number reply)) in let b = r.once n in
          ⊎_elim (λ (s : (m.number reply ≡ Some n) × (times n (list_of (m.number reply)) ≡ 1)). let z = total_none (holds n) parts (unheld n s.0) in let y = unheld n s.0 pass (One v) at in omega (arith, t, a, s.1, z, y))
          (λ (s : times n (list_of (m.number reply)) ≡ 0). omega (arith, t, a, s, b)) (list_times n (m.number reply))

      still_distinct : IsDistinct next.held
      still_distinct n =
          let a = times-append n v.held (list_of (m.number reply)) in let b = held_once m x parts pass (One v) r at n in
          ⊎_elim (λ (s : (m.number reply ≡ Some n) × (times n (list_of (m.number reply)) ≡ 1)). let y = unheld n s.0 pass (One v) at in omega (arith, a, s.1, y))
          (λ (s : times n (list_of (m.number reply)) ≡ 0). omega (arith, a, s, b)) (list_times n (m.number reply))

      calls : Calls m v call reply next
      calls = record {
        opening = r.opening;
        opened = fits.opened;
        opens = r.opens;
        between = fits.begins.0;
        grows = ap (λ (l : List (Entry C R)). l ++ new ∷ []) (sym fits.begins.1);
        legal = legal;
        mine = own_mine v.caller r.history new refl ∙ ap (λ (l : List (Entry C R)). l ++ new ∷ []) same_own;
        others = λ n some_held ne. own_other n r.history new (λ (s : v.caller ≡ n). ne (sym s)) ∙ fits.whole n some_held;
        drawn = λ n is. own_other n r.history new (not_caller n is) ∙ own_unmade m r.opening n r.history r.legal (fresh_number n is).0 (fresh_number n is).1;
        now_held = refl;
        same_caller = refl;
        same_opening = refl;
        holds_itself = fits.itself;
        distinct = λ n. held_once m x parts pass (One v) r at n;
        still_distinct = still_distinct;
      }

      next_fits : Fits m r.opening (r.history ++ new ∷ []) next
      next_fits = record {
        opened = fits.opened;
        begins = prefix_self (r.history ++ new ∷ []);
        made = λ n some_held.
            ⊎_elim (λ (s : (m.number reply ≡ Some n) × (times n (list_of (m.number reply)) ≡ 1)). inr (call, maker_last m n r.history new (fresh_number n s.0).1 s.0))
            (λ (s : times n (list_of (m.number reply)) ≡ 0). let a = times-append n v.held (list_of (m.number reply)) in
            made_more m n r.history (new ∷ []) (made_prefix m n v.seen r.history fits.begins (fits.made n (omega (arith, a, s, some_held))))) (list_times n (m.number reply));
        whole = λ n some_held. refl;
        itself = let a = times-append v.caller v.held (list_of (m.number reply)) in let b = fits.itself in omega (arith, a, b);
      }

      -- of another part's numbers none is the caller's
      apart : (i : ℕ) (p : Part O C R) (n : ℕ) → i ≢ pass → get_elem? parts i ≡ some p → 0 < holds n p → v.caller ≢ n
      apart i p n ne e some_held same =
          let mine : 0 < times n v.held = subst (λ (k : ℕ). 0 < times k v.held) same fits.itself in
          let two = held_here m x parts i pass p (One v) r ne e at n in omega (arith, two, mine, some_held)

      fitting : (i : ℕ) (p : Part O C R) → get_elem? (set parts pass (One next)) i ≡ some p → IsPart m r.opening (r.history ++ new ∷ []) p
      fitting i p e = ⊎_elim
          (λ (t : (i ≡ pass) × (One next ≡ p)). subst (λ (q : Part O C R). IsPart m r.opening (r.history ++ new ∷ []) q) t.1 next_fits)
          (λ (t : (i ≢ pass) × (get_elem? parts i ≡ some p)). part_more m r.opening r.history p new (λ n some_held. apart i p n t.0 t.1 some_held) (r.fitting i p t.1))
          (at_set parts pass i (One next) p e)

      runs : Runs m (m.words (m.row_after r.opening (calls_of r.history ++ call ∷ []))) (set parts pass (One next))
      runs = record {
        opening = r.opening;
        history = r.history ++ new ∷ [];
        opens = r.opens;
        legal = legal;
        words_are = ap (λ (l : List C). m.words (m.row_after r.opening l)) (map-append (λ (e : Entry C R). e.call) r.history (new ∷ []));
        fitting = fitting;
        once = once;
      }

    looks_one : Turns (Kept m) pass (One v) (λ x. x) (LooksAt m (Some call))
    looks_one x parts kept at =
        let here = live_runs m x parts pass v at kept in let r = here.0 in let f = here.1 in
        let after : List ℕ = m.words (m.row_after r.opening (calls_of r.history ++ call ∷ [])) in
        ⊎_elim
        (λ (same : after ≡ x). (
          One (next x parts r at f),
          inr (subst (λ (y : List ℕ). Runs m y (set parts pass (One (next x parts r at f)))) same (runs x parts r at f)),
          ((refl, refl), inl (r.opening, r.history, r.opens, r.words_are, same, calls x parts r at f)),
        ))
        (λ (other : after ≢ x). (
          One v,
          subst (λ (l : List (Part O C R)). Kept m x l) (sym (set_again parts pass (One v) at)) kept,
          ((refl, refl), inr (r.opening, r.history, r.opens, r.words_are, other, refl)),
        ))
        (same_words after x)
      where
        same_words : (xs ys : List ℕ) → (xs ≡ ys) ⊎ (xs ≢ ys)
        same_words xs ys = go (pointwise eqb xs ys) refl
          where
            go : (b : Bool) → pointwise eqb xs ys ≡ b → (xs ≡ ys) ⊎ (xs ≢ ys)
            go true e = inl ((bytes_decides xs ys).0 e)
            go false e = inr (λ s. true≢false (sym ((bytes_decides xs ys).1 s) ∙ e))

    exchanges_one : (current new : List ℕ) → new ≢ current → LeadsTo m call current new → Turns (Kept m) pass (One v) (λ x. if pointwise nat_eq x current then new else x) (ExchangesAt m (Some call))
    exchanges_one current new differs leads x parts kept at = go (pointwise nat_eq x current) refl
      where
        go : (b : Bool) → pointwise nat_eq x current ≡ b → (q : Part O C R) × Kept m (if b then new else x) (set parts pass q) × ExchangesAt m (Some call) (One v) x (if b then new else x) q
        go true is =
            let here = live_runs m x parts pass v at kept in let r = here.0 in let f = here.1 in
            let hit : x ≡ current = (bytes_decides x current).0 is in
            let same = leads r.opening (calls_of r.history) r.opens (r.words_are ∙ hit) in (
              One (next x parts r at f),
              inr (subst (λ (y : List ℕ). Runs m y (set parts pass (One (next x parts r at f)))) same (runs x parts r at f)),
              ((refl, refl), inl ((λ e. differs (e ∙ hit)), (r.opening, r.history, r.opens, r.words_are, same, calls x parts r at f))),
            )
        go false is = (One v, subst (λ (l : List (Part O C R)). Kept m x l) (sym (set_again parts pass (One v) at)) kept, ((refl, refl), inr (refl, refl)))

  -- from the words a row was read, and the step was taken on it
  abbrev pub Computes : C → List ℕ → List ℕ → R → Type 0
  Computes call words new reply = (opening : O) (calls : List C) → m.IsOpening opening → m.words (m.row_after opening calls) ≡ words
      → (m.words (m.row_after opening (calls ++ call ∷ [])) ≡ new) × (reply ≡ m.reply_after opening calls call)

  pub computes : (words new : List ℕ) (read : Option O) (row next : O) (call : C) (reply : R) → IsRowOf m words read → read ≡ Some row → StepsTo m row call next reply → new ≡ m.words next → Computes call words new reply
  computes words new read row next call reply is_row is steps ws opening calls opens at =
      let found : read ≡ Some (m.row_after opening calls) = (is_row (m.row_after opening calls)).1 at in
      let same : row ≡ m.row_after opening calls = cc in
      let s = steps opening calls opens same in
      (ap m.words (sym s.0) ∙ sym ws, s.1)

  -- where the words are those of a history, a row is read from them
  pub is_read : (words : List ℕ) (read : Option O) (row : O) → IsRowOf m words read → m.words row ≡ words → read ≡ Some row
  is_read words read row is_row at = (is_row row).1 at

  -- the same steps, of a token
  module _ (law : NumbersAreNew m) (pass : ℕ) (ledger : TableId) (p : Part O C R) (k : Known O C R) (call : C) (is : known ledger (view_of p) ≡ k) (one : IsOne p)
      (may : may_call m k.view.seen k.view.caller call ≡ true) (going : has_ended m k.view.seen k.view.caller ≡ false) where
    the_view : view_of p ≡ k.view
    the_view = ap (λ (a : Known O C R). a.view) is

    the_may : may_call m (view_of p).seen (view_of p).caller call ≡ true
    the_may = subst (λ (u : View O C R). may_call m u.seen u.caller call ≡ true) (sym the_view) may

    the_going : has_ended m (view_of p).seen (view_of p).caller ≡ false
    the_going = subst (λ (u : View O C R). has_ended m u.seen u.caller ≡ false) (sym the_view) going

    pub token_looks : Turns (Kept m) pass p (λ x. x) (LooksAt m (Some call))
    token_looks = subst (λ (q : Part O C R). Turns (Kept m) pass q (λ x. x) (LooksAt m (Some call))) (sym one) (looks_one law pass (view_of p) call the_may the_going)

    pub token_exchanges : (current new : List ℕ) → new ≢ current → LeadsTo m call current new → Turns (Kept m) pass p (λ x. if pointwise nat_eq x current then new else x) (ExchangesAt m (Some call))
    token_exchanges current new differs leads =
        subst (λ (q : Part O C R). Turns (Kept m) pass q (λ x. if pointwise nat_eq x current then new else x) (ExchangesAt m (Some call))) (sym one) (exchanges_one law pass (view_of p) call the_may the_going current new differs leads)
