-- A call beside another token: its reply is that after the calls of both, and of no others.
use Rattle.std.proofs.Common.{◌≡◌, ◌≢◌, ℕ, zero, suc, ◌+◌, ◌<◌, ◌==◌, List, [], ◌∷◌, ◌++◌, length, refl, ap, sym, ◌∙◌, subst, arith, append_assoc, length-append, inl, inr, ◌⊎◌, ⊎_elim}
use Rattle.std.proofs.lemmas.List.Elements.{filter-append}
use mathlib.Core.List.{IsPrefix}
use Rattle.tk_core.specs.declared.history.Entry.{Entry}
use Rattle.tk_core.specs.Meaning.{Meaning}
use Rattle.tk_core.specs.History.{calls_of}
use Rattle.tk_core.specs.Legal.{own, IsLegal}
use Rattle.tk_cell.specs.declared.view.View.{View}
use Rattle.tk_cell.specs.Views.{times, Holds}
use Rattle.tk_cell.specs.Calls.{entry, Joins, Meets}
use Rattle.tk_cell.specs.Ours.{Interleaves, of_held, ours, HoldsAll, HoldsItsOwn, CallsBeside, HoldTheirOwn, IsAfterTheirs, BesideIsWhole}
use Rattle.tk_cell.proofs.ListLemmas.{dec_eq, times-append}
use Rattle.tk_cell.proofs.HistoryLemmas.{may_made}
use Rattle.tk_cell.proofs.OursLemmas.{head_some, more_none, between_none, joins_interleave, its_own_are_all, calls_in_order, meeting_adds_nothing}

module _ {O C R : Type 0} (m : Meaning O C R) where
  -- two tokens that met as one
  abbrev pub as_one : View O C R → View O C R → List (Entry C R) → View O C R
  as_one v q seen = record v { seen = seen; held = v.held ++ q.held }

  pub meets_join : (v q w u : View O C R) → Meets m v q w u → Joins m v q (as_one v q w.seen)
  meets_join v q w u k = record {
    opening = k.opening;
    opened = k.opened;
    same = k.same;
    opens = k.opens;
    longer = k.longer;
    legal = k.legal;
    first = k.first;
    second = k.second;
    now_held = refl;
    same_caller = refl;
    same_opening = refl;
    holds_itself = k.holds_itself;
    other_holds_itself = k.other_holds_itself;
    still_distinct = k.distinct;
  }

  module _ (v q w u : View O C R) (call : C) (reply : R) (k : CallsBeside m v q call reply w u) (closed : HoldTheirOwn m v q) where
    abbrev met : View O C R
    met = as_one v q k.v_met.seen

    abbrev e : Entry C R
    e = entry q.caller call reply

    one_holds : (n : ℕ) → Holds v n ⊎ Holds q n → Holds met n
    one_holds n h = let a = times-append n v.held q.held in ⊎_elim (λ (x : Holds v n). omega (arith, a, x)) (λ (x : Holds q n). omega (arith, a, x)) h

    who_holds : (n : ℕ) → Holds met n → Holds v n ⊎ Holds q n
    who_holds n h = let a = times-append n v.held q.held in go (times n v.held) (times n q.held) refl refl (subst (λ (j : ℕ). 0 < j) a h)
      where
        go : (i j : ℕ) → times n v.held ≡ i → times n q.held ≡ j → 0 < times n v.held + times n q.held → Holds v n ⊎ Holds q n
        go (suc i) j is it lt = inl (omega (arith, is))
        go zero j is it lt = inr (omega (arith, is, lt))

    both_saw : Interleaves (ours v) (ours q) (ours met)
    both_saw = let j = joins_interleave m v q met (meets_join v q k.v_met k.q_met k.before) [] v.seen q.seen refl refl in
        subst (λ (l : List (Entry C R)). Interleaves (ours v) (ours q) (of_held met l)) (sym j.1) j.2

    met_own : HoldsItsOwn m met
    met_own = (one_holds 0 closed.0, λ before after x cut n is. one_holds n (closed.1 (ours met) before after x both_saw cut n is))

    all : HoldsAll m met × (ours met ≡ met.seen)
    all = its_own_are_all m k.before.opening met met_own k.before.legal

    first_met : k.v_met ≡ record v { seen = k.v_met.seen }
    first_met = k.before.first_is

    second_met : k.q_met ≡ record q { seen = k.v_met.seen }
    second_met = k.before.second_is

    q_saw : k.q_met.seen ≡ k.v_met.seen
    q_saw = ap (λ (x : View O C R). x.seen) second_met

    q_caller : k.q_met.caller ≡ q.caller
    q_caller = ap (λ (x : View O C R). x.caller) second_met

    same_entry : entry k.q_met.caller call reply ≡ e
    same_entry = ap (λ (n : ℕ). entry n call reply) q_caller

    grows : k.q_called.seen ≡ (k.v_met.seen ++ k.entry.between) ++ e ∷ []
    grows = k.entry.grows ∙ (ap (λ (l : List (Entry C R)). (l ++ k.entry.between) ++ entry k.q_met.caller call reply ∷ []) q_saw ∙ ap (λ (x : Entry C R). (k.v_met.seen ++ k.entry.between) ++ x ∷ []) same_entry)

    -- the call came after the first meeting
    saw_it : w.seen ≡ k.q_called.seen
    saw_it = ⊎_elim
        (λ (t : IsPrefix k.v_met.seen k.q_called.seen × (w.seen ≡ k.q_called.seen)). t.1)
        (λ (t : IsPrefix k.q_called.seen k.v_met.seen × (w.seen ≡ k.v_met.seen)).
        let l1 = ap (λ (l : List (Entry C R)). length l) t.0.1 in
        let l2 = length-append k.q_called.seen t.0.0 in
        let l3 = ap (λ (l : List (Entry C R)). length l) grows in
        let l4 = length-append (k.v_met.seen ++ k.entry.between) (e ∷ []) in
        let l5 = length-append k.v_met.seen k.entry.between in
        absurd (omega (arith, l1, l2, l3, l4, l5)))
        k.again.longer

    whole : w.seen ≡ k.v_met.seen ++ (k.entry.between ++ e ∷ [])
    whole = saw_it ∙ (grows ∙ append_assoc k.v_met.seen k.entry.between (e ∷ []))

    -- whoever called first after the meeting is held, and no such call came between
    caller_held : (x : Entry C R) (after : List (Entry C R)) → k.v_met.seen ++ x ∷ after ≡ w.seen → Holds met x.caller
    caller_held x after cut =
        let follows = k.again.legal k.v_met.seen after x cut in
        ⊎_elim (λ (z : x.caller ≡ 0). subst (λ (j : ℕ). Holds met j) (sym z) all.0.0)
        (λ (ne : x.caller ≢ 0). let made = may_made m x.caller k.v_met.seen x.call ne follows.role in all.0.1 x.caller made.0 made.1)
        (dec_eq x.caller 0)

    v_none : (n : ℕ) → Holds v n → own n (k.entry.between ++ e ∷ []) ≡ []
    v_none n some_held =
        let here : Holds k.v_met n = subst (λ (l : List ℕ). 0 < times n l) (sym (ap (λ (x : View O C R). x.held) first_met)) some_held in
        more_none n k.v_met.seen (k.entry.between ++ e ∷ []) (ap (λ (l : List (Entry C R)). own n l) (sym whole) ∙ k.again.first n here)

    q_none : (n : ℕ) → Holds q n → own n k.entry.between ≡ []
    q_none n some_held =
        let here : Holds k.q_met n = subst (λ (l : List ℕ). 0 < times n l) (sym (ap (λ (x : View O C R). x.held) second_met)) some_held in
        between_none m k.q_met k.q_called call reply k.entry n here

    front_none : (n : ℕ) (a b : List (Entry C R)) → own n (a ++ b) ≡ [] → own n a ≡ []
    front_none n a b none = go (own n a) (own n b) (sym (filter-append (λ (x : Entry C R). x.caller == n) a b) ∙ none)
      where
        go : (i j : List (Entry C R)) → i ++ j ≡ [] → i ≡ []
        go [] j is = refl
        go (y ∷ i) j is = absurd cc

    nothing_between : k.entry.between ≡ []
    nothing_between = go k.entry.between refl
      where
        go : (l : List (Entry C R)) → k.entry.between ≡ l → l ≡ []
        go [] is = refl
        go (x ∷ rest) is =
            let cut : k.v_met.seen ++ x ∷ (rest ++ e ∷ []) ≡ w.seen = ap (λ (l : List (Entry C R)). k.v_met.seen ++ (l ++ e ∷ [])) (sym is) ∙ sym whole in
            let none : own x.caller k.entry.between ≡ [] = ⊎_elim
            (λ (h : Holds v x.caller). front_none x.caller k.entry.between (e ∷ []) (v_none x.caller h))
            (λ (h : Holds q x.caller). q_none x.caller h)
            (who_holds x.caller (caller_held x (rest ++ e ∷ []) cut)) in
            absurd (head_some x rest (ap (λ (l : List (Entry C R)). own x.caller l) (sym is) ∙ none))

    saw : w.seen ≡ k.v_met.seen ++ e ∷ []
    saw = whole ∙ ap (λ (l : List (Entry C R)). k.v_met.seen ++ (l ++ e ∷ [])) nothing_between

    reply_is : reply ≡ m.reply_after k.before.opening (calls_of k.v_met.seen) call
    reply_is =
        let cut : k.v_met.seen ++ e ∷ [] ≡ w.seen = sym saw in
        let follows = k.again.legal k.v_met.seen [] e cut in
        let opening_same : k.again.opening ≡ k.before.opening = cc (k.again.opened, k.before.opened, ap (λ (x : View O C R). x.opening) first_met) in
        follows.reply ∙ ap (λ (o : O). m.reply_after o (calls_of k.v_met.seen) call) opening_same

    legal_from : IsLegal m k.before.opening w.seen
    legal_from = subst (λ (o : O). IsLegal m o w.seen) (cc (k.again.opened, k.before.opened, ap (λ (x : View O C R). x.opening) first_met)) k.again.legal

    pub is_after_theirs : IsAfterTheirs m v q call reply w u
    is_after_theirs =
        let first = meeting_adds_nothing m v q k.v_met k.q_met k.before in
        let second = meeting_adds_nothing m k.v_met k.q_called w u k.again in
        record {
          opening = k.before.opening;
          opened = k.before.opened;
          opens = k.before.opens;
          history = k.v_met.seen;
          theirs = subst (λ (l : List (Entry C R)). Interleaves (ours v) (ours q) l) all.1 both_saw;
          answered = reply_is;
          first_saw = saw;
          second_saw = ap (λ (x : View O C R). x.seen) k.again.second_is;
          legal = legal_from;
          first_stays = second.0 ∙ first.0;
          second_grows = second.1 ∙ (calls_in_order m k.q_met k.q_called call reply k.entry ∙ (ap (λ (l : List (Entry C R)). l ++ entry k.q_met.caller call reply ∷ []) first.1 ∙ ap (λ (x : Entry C R). ours q ++ x ∷ []) same_entry));
        }

  pub beside_is_whole : BesideIsWhole m
  beside_is_whole v q w u call reply k closed = is_after_theirs v q w u call reply k closed
