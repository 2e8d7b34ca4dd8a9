-- The callers of an item in one hand: what calls, parts and joins leave of it.
use Rattle.std.proofs.Common.{◌≡◌, ◌≢◌, ℕ, zero, suc, ◌+◌, ◌<◌, ◌==◌, ◌&&◌, ◌||◌, Bool, true, false, not, cond, filter, if◌then◌else◌, List, [], ◌∷◌, ◌++◌, Option, Some, None, eqb, refl, ap, sym, ◌∙◌, subst, arith, inl, inr, ◌⊎◌, ⊎_elim, true≢false}
use Rattle.std.specs.List.{list_any}
use Rattle.std.specs.Option.{option_map_or}
use Rattle.std.proofs.lemmas.Bool.{eq-eqb, ne_eqb}
use Rattle.std.proofs.lemmas.List.{append-nil}
use Rattle.std.proofs.lemmas.List.Elements.{filter-append}
use Rattle.std.proofs.lemmas.List.Folds.{list_any-append}
use mathlib.Core.List.{IsPrefix}
use Rattle.tk_core.specs.declared.history.Entry.{Entry}
use Rattle.tk_core.specs.Meaning.{Meaning, NumbersAreNew}
use Rattle.tk_core.specs.History.{calls_of}
use Rattle.tk_core.specs.Legal.{own, maker, may_call, has_ended}
use Rattle.tk_cell.specs.declared.view.View.{View}
use Rattle.tk_cell.specs.Views.{times, list_of, without, Holds, Known, after_split, split_off, as_caller}
use Rattle.tk_cell.specs.Calls.{entry, Calls, Joins}
use Rattle.tk_cell.specs.Ours.{CallsBeside}
use Rattle.tk_cell.proofs.ListLemmas.{dec_eq, times-append, times_itself, times_other, without_other, prefix_trans}
use Rattle.tk_cell.proofs.HistoryLemmas.{maker_more, ended_same}
use Rattle.tk_cell.proofs.CallLemmas.{list_times}
use Rattle.tk_cell.proofs.RoleLemmas.{call_begins, call_reply, drawn_made, longer_first, longer_second}
use Rattle.tk_ledgers.specs.Handles.{Caller, owner, made_by, role_may, HasRole}
use Rattle.tk_ledgers.specs.Callers.{with_drawn, live, IsLive, live_after, CallsKeepOnly, CallsKeepLive, DrawnIsNew, HandingOutKeepsLive, HandlesStayLive, TakingBackKeepsLive}
use Rattle.tk_ledgers.specs.Hands.{Others, IsHand, MayCall, Draws}

-- ---- tests and lists of numbers

first_stands : (n : ℕ) (ns : List ℕ) → 0 < times n (n ∷ ns)
first_stands n ns = rw (eq-eqb n n refl) (omega arith)

later_stands : (k n : ℕ) (ns : List ℕ) → 0 < times k ns → 0 < times k (n ∷ ns)
later_stands k n ns there = omega (arith, there)

-- two tests that agree at the numbers of a list
pub filter_agrees : (p q : ℕ → Bool) (ns : List ℕ) → ((n : ℕ) → 0 < times n ns → p n ≡ q n) → filter p ns ≡ filter q ns
filter_agrees p q [] same = refl
filter_agrees p q (n ∷ ns) same =
    let rest = filter_agrees p q ns (λ k there. same k (later_stands k n ns there)) in
    rw (same n (first_stands n ns)) (ap (λ (l : List ℕ). cond (q n) (n ∷ l) l) rest)

pub times_filter : (p : ℕ → Bool) (n : ℕ) (ns : List ℕ) → 0 < times n (filter p ns) → (p n ≡ true) × (0 < times n ns)
times_filter p n [] there = absurd (omega (arith, there))
times_filter p n (k ∷ ns) there = go (p k) refl (times_filter p n ns) there
  where
    go : (b : Bool) → p k ≡ b → (0 < times n (filter p ns) → (p n ≡ true) × (0 < times n ns)) → 0 < times n (cond b (k ∷ filter p ns) (filter p ns)) → (p n ≡ true) × (0 < times n (k ∷ ns))
    go true is later at = ⊎_elim
        (λ (e : k ≡ n). (subst (λ (j : ℕ). p j ≡ true) e is, subst (λ (j : ℕ). 0 < times j (k ∷ ns)) e (first_stands k ns)))
        (λ (ne : k ≢ n). let t : eqb k n ≡ false = ne_eqb k n ne in let u = rw t at at in let r = later (omega (arith, u)) in (r.0, later_stands n k ns r.1))
        (dec_eq k n)
    go false is later at = let r = later at in (r.0, later_stands n k ns r.1)

filter_times : (p : ℕ → Bool) (n : ℕ) (ns : List ℕ) → p n ≡ true → 0 < times n ns → 0 < times n (filter p ns)
filter_times p n [] is there = absurd (omega (arith, there))
filter_times p n (k ∷ ns) is there = ⊎_elim
    (λ (e : k ≡ n). subst (λ (j : ℕ). 0 < times n (filter p (j ∷ ns))) (sym e) (rw is (first_stands n (filter p ns))))
    (λ (ne : k ≢ n). let t : eqb k n ≡ false = ne_eqb k n ne in let u = rw t at there in go (p k) (filter_times p n ns is (omega (arith, u))))
    (dec_eq k n)
  where
    go : (b : Bool) → 0 < times n (filter p ns) → 0 < times n (cond b (k ∷ filter p ns) (filter p ns))
    go true rest = later_stands n k (filter p ns) rest
    go false rest = rest

and_true : (a b : Bool) → (a && b) ≡ true → (a ≡ true) × (b ≡ true)
and_true true true e = (refl, refl)
and_true true false e = absurd cc
and_true false b e = absurd cc

and_none : (a : Bool) → (a && false) ≡ false
and_none true = refl
and_none false = refl

and_yes : (a : Bool) → (a && true) ≡ a
and_yes true = refl
and_yes false = refl

not_false : (a : Bool) → not a ≡ true → a ≡ false
not_false true e = absurd cc
not_false false e = refl

filter_both : (p q : ℕ → Bool) (ns : List ℕ) → filter p (filter q ns) ≡ filter (λ n. q n && p n) ns
filter_both p q [] = refl
filter_both p q (n ∷ ns) = go (q n) (p n) refl (filter_both p q ns)
  where
    go : (a b : Bool) → p n ≡ b → filter p (filter q ns) ≡ filter (λ k. q k && p k) ns → filter p (cond a (n ∷ filter q ns) (filter q ns)) ≡ cond (a && b) (n ∷ filter (λ k. q k && p k) ns) (filter (λ k. q k && p k) ns)
    go true true is rest = rw is (ap (λ (l : List ℕ). n ∷ l) rest)
    go true false is rest = rw is rest
    go false b is rest = rest

and_turned : (a b : Bool) → (a && b) ≡ (b && a)
and_turned true true = refl
and_turned true false = refl
and_turned false true = refl
and_turned false false = refl

filter_turned : (p q : ℕ → Bool) (ns : List ℕ) → filter p (filter q ns) ≡ filter q (filter p ns)
filter_turned p q ns = filter_both p q ns ∙ (filter_agrees (λ n. q n && p n) (λ n. p n && q n) ns (λ n there. and_turned (q n) (p n)) ∙ sym (filter_both q p ns))

-- ---- what a hand knows

module _ {O C R : Type 0} (m : Meaning O C R) where
  later_maker : (n : ℕ) (seen h : List (Entry C R)) (made : C) → IsPrefix seen h → maker m n seen ≡ Some made → maker m n h ≡ Some made
  later_maker n seen h made p is = subst (λ (l : List (Entry C R)). maker m n l ≡ Some made) p.1 (maker_more m n seen p.0 made is)

  -- whether a caller of this number goes on
  abbrev goes_on : List (Entry C R) → ℕ → Bool
  goes_on h n = not (n == 0) && not (has_ended m h n)

  -- a live caller isn't the owner, made no last call, and is held
  pub live_is : (v : View O C R) (n : ℕ) → IsLive m v n → (n ≢ 0) × (has_ended m v.seen n ≡ false) × Holds v n
  live_is v n there =
      let t = times_filter (λ k. goes_on v.seen k) n v.held there in
      let both = and_true (not (n == 0)) (not (has_ended m v.seen n)) t.0 in (
        λ is. true≢false (sym (eq-eqb n 0 is) ∙ not_false (n == 0) both.0),
        not_false (has_ended m v.seen n) both.1,
        t.1,
      )

  others_may : (role : Caller C) (v : View O C R) (n : ℕ) (call : C) → Others m role v → (n ≢ 0) × (has_ended m v.seen n ≡ false) × Holds v n → role_may m role call ≡ true → may_call m v.seen n call ≡ true
  others_may owner v n call others is may = absurd (is.0 (others n is.2))
  others_may (made_by made) v n call others is may = rw (ne_eqb n 0 is.0) (ap (λ (x : Option C). option_map_or (λ c. m.made_may c call) x false) (others n is.2 is.0) ∙ may)

  module _ (role : Caller C) (v : View O C R) (hand : IsHand m role v) where
    pub may_hold : (n : ℕ) (call : C) → MayCall m role v n call → Holds v n
    may_hold n call may = ⊎_elim
        (λ (t : (n ≡ 0) × (m.owner_may call ≡ true) × (m.is_last call ≡ false)). subst (λ (k : ℕ). Holds v k) (sym t.0) hand.owner_held)
        (λ (t : IsLive m v n × (role_may m role call ≡ true)). (live_is v n t.0).2)
        may

    pub may_go : (n : ℕ) (call : C) → MayCall m role v n call → has_ended m v.seen n ≡ false
    may_go n call may = ⊎_elim
        (λ (t : (n ≡ 0) × (m.owner_may call ≡ true) × (m.is_last call ≡ false)). subst (λ (k : ℕ). has_ended m v.seen k ≡ false) (sym t.0) hand.owner_goes_on)
        (λ (t : IsLive m v n × (role_may m role call ≡ true)). (live_is v n t.0).1)
        may

    pub may_make : (n : ℕ) (call : C) → MayCall m role v n call → may_call m v.seen n call ≡ true
    may_make n call may = ⊎_elim
        (λ (t : (n ≡ 0) × (m.owner_may call ≡ true) × (m.is_last call ≡ false)). rw (eq-eqb n 0 t.0) t.1)
        (λ (t : IsLive m v n × (role_may m role call ≡ true)). others_may role v n call hand.others (live_is v n t.0) t.1)
        may

    -- ---- a call
    module _ (law : NumbersAreNew m) (n : ℕ) (call : C) (may : MayCall m role v n call) (reply : R) (w : View O C R) (k : Calls m (as_caller n v) call reply w) where
      held_now : (j : ℕ) → times j w.held ≡ times j v.held + times j (list_of (m.number reply))
      held_now j = ap (λ (l : List ℕ). times j l) k.now_held ∙ times-append j v.held (list_of (m.number reply))

      pub still_held : (j : ℕ) → Holds v j → Holds w j
      still_held j there = let t = held_now j in omega (arith, t, there)

      held_cases : (j : ℕ) → Holds w j → Holds v j ⊎ (m.number reply ≡ Some j)
      held_cases j there = let t = held_now j in ⊎_elim
          (λ (s : (m.number reply ≡ Some j) × (times j (list_of (m.number reply)) ≡ 1)). inr s.0)
          (λ (s : times j (list_of (m.number reply)) ≡ 0). inl (omega (arith, t, s, there)))
          (list_times j (m.number reply))

      others_same : (j : ℕ) → Holds v j → j ≢ n → has_ended m w.seen j ≡ has_ended m v.seen j
      others_same j there ne = ended_same m j w.seen v.seen (k.others j there ne)

      caller_ends : has_ended m w.seen n ≡ m.is_last call
      caller_ends =
          let p : Entry C R → Bool = λ e. m.is_last e.call in
          let all : has_ended m w.seen n ≡ (has_ended m v.seen n || (m.is_last call || false)) = ap (λ (l : List (Entry C R)). list_any p l) k.mine ∙ list_any-append p (own n v.seen) (entry n call reply ∷ []) in
          all ∙ (ap (λ (b : Bool). b || (m.is_last call || false)) (may_go n call may) ∙ go (m.is_last call))
        where
          go : (b : Bool) → (false || (b || false)) ≡ b
          go true = refl
          go false = refl

      owner_still : has_ended m w.seen 0 ≡ false
      owner_still = ⊎_elim
          (λ (t : (n ≡ 0) × (m.owner_may call ≡ true) × (m.is_last call ≡ false)). subst (λ (j : ℕ). has_ended m w.seen j ≡ false) t.0 (caller_ends ∙ t.2))
          (λ (t : IsLive m v n × (role_may m role call ≡ true)). others_same 0 hand.owner_held (λ s. (live_is v n t.0).0 (sym s)) ∙ hand.owner_goes_on)
          may

      drawn_by : Draws m role call → (j : ℕ) → m.number reply ≡ Some j → role ≡ made_by call
      drawn_by draws j is = draws k.opening (calls_of (v.seen ++ k.between)) j (ap m.number (sym (call_reply m (as_caller n v) call reply w k)) ∙ is)

      others_still : (r : Caller C) → Others m r v → ((j : ℕ) → m.number reply ≡ Some j → r ≡ made_by call) → Others m r w
      others_still owner others drawn = λ j there. ⊎_elim
          (λ (h : Holds v j). others j h)
          (λ (is : m.number reply ≡ Some j). let e = drawn j is in absurd cc)
          (held_cases j there)
      others_still (made_by made) others drawn = λ j there ne. ⊎_elim
          (λ (h : Holds v j). later_maker j v.seen w.seen made (call_begins m (as_caller n v) call reply w k) (others j h ne))
          (λ (is : m.number reply ≡ Some j). let e = drawn j is in let same : call ≡ made = cc in (drawn_made m (as_caller n v) call reply w k j is law).by ∙ ap Some same)
          (held_cases j there)

      pub hand_calls : Draws m role call → IsHand m role w
      hand_calls draws = record { owner_held = still_held 0 hand.owner_held; owner_goes_on = owner_still; others = others_still role hand.others (drawn_by draws) }

      -- who is live then
      drawn_goes_on : (o : Option ℕ) → m.number reply ≡ o → filter (λ j. goes_on w.seen j) (list_of o) ≡ list_of o
      drawn_goes_on None is = refl
      drawn_goes_on (Some j) is =
          let fresh = drawn_made m (as_caller n v) call reply w k j is law in
          let quiet : has_ended m w.seen j ≡ false = ap (λ (l : List (Entry C R)). list_any (λ e. m.is_last e.call) l) (k.drawn j is) in
          rw (ne_eqb j 0 fresh.other, quiet) refl

      old_go_on : (b : Bool) → m.is_last call ≡ b → filter (λ j. goes_on w.seen j) v.held ≡ (if b then without n (live m v) else live m v)
      old_go_on false isnt = filter_agrees (λ j. goes_on w.seen j) (λ j. goes_on v.seen j) v.held (λ j there. ap (λ (x : Bool). not (j == 0) && not x) (⊎_elim
          (λ (e : j ≡ n). subst (λ (i : ℕ). has_ended m w.seen i ≡ has_ended m v.seen i) (sym e) (caller_ends ∙ (isnt ∙ sym (may_go n call may))))
          (λ (ne : j ≢ n). others_same j there ne)
          (dec_eq j n)))
      old_go_on true is =
          filter_agrees (λ j. goes_on w.seen j) (λ j. goes_on v.seen j && not (j == n)) v.held (λ j there. ⊎_elim
          (λ (e : j ≡ n). let t : eqb j n ≡ true = eq-eqb j n e in
          let over : has_ended m w.seen j ≡ true = subst (λ (i : ℕ). has_ended m w.seen i ≡ true) (sym e) (caller_ends ∙ is) in
          ap (λ (x : Bool). not (j == 0) && not x) over ∙ (and_none (not (j == 0)) ∙ (sym (and_none (goes_on v.seen j)) ∙ ap (λ (x : Bool). goes_on v.seen j && not x) (sym t))))
          (λ (ne : j ≢ n). let t : eqb j n ≡ false = ne_eqb j n ne in
          ap (λ (x : Bool). not (j == 0) && not x) (others_same j there ne) ∙ (sym (and_yes (goes_on v.seen j)) ∙ ap (λ (x : Bool). goes_on v.seen j && not x) (sym t)))
          (dec_eq j n))
          ∙ sym (filter_both (λ j. not (j == n)) (λ j. goes_on v.seen j) v.held)

      pub live_then : live m w ≡ live_after m n call reply (live m v)
      live_then =
          ap (λ (l : List ℕ). filter (λ j. goes_on w.seen j) l) k.now_held
          ∙ (filter-append (λ (j : ℕ). goes_on w.seen j) v.held (list_of (m.number reply))
          ∙ (ap (λ (l : List ℕ). filter (λ j. goes_on w.seen j) v.held ++ l) (drawn_goes_on (m.number reply) refl)
          ∙ (ap (λ (l : List ℕ). l ++ list_of (m.number reply)) (old_go_on (m.is_last call) refl)
          ∙ with_list (m.number reply) (if m.is_last call then without n (live m v) else live m v))))
        where
          with_list : (o : Option ℕ) (ns : List ℕ) → ns ++ list_of o ≡ with_drawn o ns
          with_list None ns = append-nil ns
          with_list (Some j) ns = refl

    -- ---- a caller that is handed out
    module _ (n : ℕ) (alive : IsLive m v n) where
      fewer : (j : ℕ) → 0 < times j (without n v.held) → Holds v j
      fewer j there = (times_filter (λ i. not (i == n)) j v.held there).1

      others_left : (r : Caller C) → Others m r v → Others m r (after_split n (as_caller 0 v))
      others_left owner others = λ j there. others j (fewer j there)
      others_left (made_by made) others = λ j there ne. others j (fewer j there) ne

      pub hand_left : IsHand m role (after_split n (as_caller 0 v))
      hand_left = record {
        owner_held = let same = without_other n 0 v.held (live_is v n alive).0 in let here = hand.owner_held in omega (arith, same, here);
        owner_goes_on = hand.owner_goes_on;
        others = others_left role hand.others;
      }

      pub live_left : live m (after_split n (as_caller 0 v)) ≡ without n (live m v)
      live_left = filter_turned (λ j. goes_on v.seen j) (λ j. not (j == n)) v.held

      role_given : (r : Caller C) → Others m r v → HasRole m r (split_off n v)
      role_given owner others = absurd ((live_is v n alive).0 (others n (live_is v n alive).2))
      role_given (made_by made) others = let is = live_is v n alive in record { other = is.0; by = others n is.2 is.0; going = is.1 }

      pub given_role : HasRole m role (split_off n v)
      given_role = role_given role hand.others

      others_given : (r : Caller C) → Others m r v → Others m r (split_off n v)
      others_given owner others = absurd ((live_is v n alive).0 (others n (live_is v n alive).2))
      others_given (made_by made) others = λ j there ne. ⊎_elim
          (λ (e : n ≡ j). subst (λ (i : ℕ). maker m i v.seen ≡ Some made) e (others n (live_is v n alive).2 (live_is v n alive).0))
          (λ (apart : n ≢ j). let none = times_other n j apart in absurd (omega (arith, none, there)))
          (dec_eq n j)

      pub given_others : Others m role (split_off n v)
      given_others = others_given role hand.others

    -- ---- callers that are taken back
    module _ (other w : View O C R) (back : Others m role other) (k : Joins m v other w) where
      joined_held : (j : ℕ) → times j w.held ≡ times j v.held + times j other.held
      joined_held j = ap (λ (l : List ℕ). times j l) k.now_held ∙ times-append j v.held other.held

      which_held : (j : ℕ) → Holds w j → Holds v j ⊎ Holds other j
      which_held j there = go (times j v.held) (times j other.held) refl refl (joined_held j)
        where
          go : (a b : ℕ) → times j v.held ≡ a → times j other.held ≡ b → times j w.held ≡ times j v.held + times j other.held → Holds v j ⊎ Holds other j
          go (suc a) b is it all = inl (omega (arith, is))
          go zero b is it all = inr (omega (arith, is, it, all, there))

      others_joined : (r : Caller C) → Others m r v → Others m r other → Others m r w
      others_joined owner one two = λ j there. ⊎_elim (λ (h : Holds v j). one j h) (λ (h : Holds other j). two j h) (which_held j there)
      others_joined (made_by made) one two = λ j there ne. ⊎_elim
          (λ (h : Holds v j). later_maker j v.seen w.seen made (longer_first m v.seen other.seen w.seen k.longer) (one j h ne))
          (λ (h : Holds other j). later_maker j other.seen w.seen made (longer_second m v.seen other.seen w.seen k.longer) (two j h ne))
          (which_held j there)

      pub hand_joins : IsHand m role w
      hand_joins = record {
        owner_held = let t = joined_held 0 in let here = hand.owner_held in omega (arith, t, here);
        owner_goes_on = ended_same m 0 w.seen v.seen (k.first 0 hand.owner_held) ∙ hand.owner_goes_on;
        others = others_joined role hand.others back;
      }

      pub live_joined : live m w ≡ live m v ++ live m other
      live_joined =
          ap (λ (l : List ℕ). filter (λ j. goes_on w.seen j) l) k.now_held
          ∙ (filter-append (λ (j : ℕ). goes_on w.seen j) v.held other.held
          ∙ (ap (λ (l : List ℕ). l ++ filter (λ j. goes_on w.seen j) other.held)
          (filter_agrees (λ j. goes_on w.seen j) (λ j. goes_on v.seen j) v.held (λ j there. ap (λ (x : Bool). not (j == 0) && not x) (ended_same m j w.seen v.seen (k.first j there))))
          ∙ ap (λ (l : List ℕ). live m v ++ l)
          (filter_agrees (λ j. goes_on w.seen j) (λ j. goes_on other.seen j) other.held (λ j there. ap (λ (x : Bool). not (j == 0) && not x) (ended_same m j w.seen other.seen (k.second j there))))))

  -- ---- a call beside the hand
  module _ (v q w u : View O C R) (call : C) (reply : R) (k : CallsBeside m v q call reply w u) where
    pub same_held : w.held ≡ v.held
    same_held = ap (λ (x : View O C R). x.held) k.again.first_is ∙ ap (λ (x : View O C R). x.held) k.before.first_is

    pub reader_held : m.number reply ≡ None → u.held ≡ q.held
    reader_held none = ap (λ (x : View O C R). x.held) k.again.second_is
        ∙ (k.entry.now_held ∙ (ap (λ (o : Option ℕ). k.q_met.held ++ list_of o) none ∙ (append-nil k.q_met.held ∙ ap (λ (x : View O C R). x.held) k.before.second_is)))

    pub same_own : (j : ℕ) → Holds v j → own j w.seen ≡ own j v.seen
    same_own j there =
        let here : Holds k.v_met j = subst (λ (l : List ℕ). 0 < times j l) (sym (ap (λ (x : View O C R). x.held) k.before.first_is)) there in
        k.again.first j here ∙ k.before.first j there

    begins : IsPrefix v.seen w.seen
    begins =
        let one = longer_first m v.seen q.seen k.v_met.seen k.before.longer in
        let two = longer_first m k.v_met.seen k.q_called.seen w.seen k.again.longer in
        prefix_trans v.seen k.v_met.seen w.seen one two

    others_beside : (r : Caller C) → Others m r v → Others m r w
    others_beside owner others = λ j there. others j (subst (λ (l : List ℕ). 0 < times j l) same_held there)
    others_beside (made_by made) others = λ j there ne. later_maker j v.seen w.seen made begins (others j (subst (λ (l : List ℕ). 0 < times j l) same_held there) ne)

    pub hand_beside : (role : Caller C) → IsHand m role v → IsHand m role w
    hand_beside role hand = record {
      owner_held = subst (λ (l : List ℕ). 0 < times 0 l) (sym same_held) hand.owner_held;
      owner_goes_on = ended_same m 0 w.seen v.seen (same_own 0 hand.owner_held) ∙ hand.owner_goes_on;
      others = others_beside role hand.others;
    }

    pub live_beside : live m w ≡ live m v
    live_beside =
        ap (λ (l : List ℕ). filter (λ j. goes_on w.seen j) l) same_held
        ∙ filter_agrees (λ j. goes_on w.seen j) (λ j. goes_on v.seen j) v.held (λ j there. ap (λ (x : Bool). not (j == 0) && not x) (ended_same m j w.seen v.seen (same_own j there)))

  -- ---- a token of callers of one role
  pub calls_keep_only : NumbersAreNew m → CallsKeepOnly m
  calls_keep_only law v w call made reply k draws only j there ne =
      let all : times j w.held ≡ times j v.held + times j (list_of (m.number reply)) = ap (λ (l : List ℕ). times j l) k.now_held ∙ times-append j v.held (list_of (m.number reply)) in ⊎_elim
      (λ (s : (m.number reply ≡ Some j) × (times j (list_of (m.number reply)) ≡ 1)). ⊎_elim
      (λ (none : m.number reply ≡ None). let is = s.0 in absurd cc)
      (λ (same : call ≡ made). (drawn_made m v call reply w k j s.0 law).by ∙ ap Some same)
      draws)
      (λ (s : times j (list_of (m.number reply)) ≡ 0). later_maker j v.seen w.seen made (call_begins m v call reply w k) (only j (omega (arith, all, s, there)) ne))
      (list_times j (m.number reply))

  -- ---- who is live

  pub is_live : (v : View O C R) (n : ℕ) → n ≢ 0 → has_ended m v.seen n ≡ false → Holds v n → IsLive m v n
  is_live v n ne going there = filter_times (λ k. goes_on v.seen k) n v.held (rw (ne_eqb n 0 ne, going) refl) there

  more_times : (k : ℕ) (a b : List ℕ) → 0 < times k a → 0 < times k (a ++ b)
  more_times k a b there = let t = times-append k a b in omega (arith, t, there)

  drawn_more : (k : ℕ) (o : Option ℕ) (ns : List ℕ) → 0 < times k ns → 0 < times k (with_drawn o ns)
  drawn_more k None ns there = there
  drawn_more k (Some j) ns there = more_times k ns (j ∷ []) there

  drawn_itself : (k : ℕ) (o : Option ℕ) (ns : List ℕ) → o ≡ Some k → 0 < times k (with_drawn o ns)
  drawn_itself k None ns is = absurd cc
  drawn_itself k (Some j) ns is =
      let same : k ≡ j = cc in let t = times-append j ns (j ∷ []) in let one = first_stands j [] in
      subst (λ (i : ℕ). 0 < times i (ns ++ j ∷ [])) (sym same) (omega (arith, t, one))

  pub calls_keep_live : CallsKeepLive m
  calls_keep_live old new n call reply k = (
    λ j is. subst (λ (l : List ℕ). 0 < times j l) (sym k.now_live) (drawn_itself j (m.number reply) (if m.is_last call then without n (live m old.view) else live m old.view) is),
    λ j there stays. subst (λ (l : List ℕ). 0 < times j l) (sym k.now_live) (drawn_more j (m.number reply) (if m.is_last call then without n (live m old.view) else live m old.view) (go (m.is_last call) refl j there stays)),
  )
    where
      go : (b : Bool) → m.is_last call ≡ b → (j : ℕ) → IsLive m old.view j → (j ≢ n) ⊎ (m.is_last call ≡ false) → 0 < times j (if b then without n (live m old.view) else live m old.view)
      go false is j there stays = there
      go true is j there stays = ⊎_elim
          (λ (ne : j ≢ n). let same = without_other n j (live m old.view) (λ s. ne (sym s)) in omega (arith, same, there))
          (λ (isnt : m.is_last call ≡ false). absurd (true≢false (sym is ∙ isnt)))
          stays

  pub drawn_is_new : DrawnIsNew m
  drawn_is_new old new n call reply j k is there =
      let here : Holds old.view j = (live_is old.view j there).2 in
      let once = k.made.still_distinct j in
      let all : times j new.view.held ≡ times j old.view.held + times j (list_of (m.number reply)) = ap (λ (l : List ℕ). times j l) k.made.now_held ∙ times-append j old.view.held (list_of (m.number reply)) in
      let drawn : times j (list_of (m.number reply)) ≡ 1 = ap (λ (o : Option ℕ). times j (list_of o)) is ∙ times_itself j in
      omega (arith, here, once, all, drawn)

  pub handing_out_keeps_live : HandingOutKeepsLive m
  handing_out_keeps_live old new made n k = (
    λ j ne there. subst (λ (l : List ℕ). 0 < times j l) (sym k.now_live) (let same = without_other n j (live m old.view) (λ s. ne (sym s)) in omega (arith, same, there)),
    subst (λ (t : Known O C R). IsLive m t.view n) (sym k.given) (let is = live_is old.view n k.was_live in is_live (split_off n old.view) n is.0 is.1 (first_stands n [])),
  )

  pub handles_stay_live : HandlesStayLive m
  handles_stay_live v w call reply k alive isnt =
      let is = live_is v v.caller alive in
      let p : Entry C R → Bool = λ e. m.is_last e.call in
      let all : has_ended m w.seen v.caller ≡ (has_ended m v.seen v.caller || (m.is_last call || false)) = ap (λ (l : List (Entry C R)). list_any p l) k.mine ∙ list_any-append p (own v.caller v.seen) (entry v.caller call reply ∷ []) in
      let goes : has_ended m w.seen v.caller ≡ false = all ∙ (ap (λ (b : Bool). b || (m.is_last call || false)) is.1 ∙ ap (λ (b : Bool). false || (b || false)) isnt) in
      let t : times v.caller w.held ≡ times v.caller v.held + times v.caller (list_of (m.number reply)) = ap (λ (l : List ℕ). times v.caller l) k.now_held ∙ times-append v.caller v.held (list_of (m.number reply)) in
      let there = is.2 in
      subst (λ (n : ℕ). IsLive m w n) (sym k.same_caller) (is_live w v.caller is.0 goes (omega (arith, t, there)))

  pub taking_back_keeps_live : TakingBackKeepsLive m
  taking_back_keeps_live old other new j k either = subst (λ (l : List ℕ). 0 < times j l) (sym k.now_live) (let t = times-append j (live m old.view) (live m other.view) in ⊎_elim
      (λ (there : IsLive m old.view j). omega (arith, t, there))
      (λ (there : IsLive m other.view j). omega (arith, t, there))
      either)
