-- Clones minus drops is the number of live wakers, entry by entry of a legal history.
use Rattle.std.proofs.Common.{◌≡◌, ◌≢◌, ℕ, zero, suc, ◌+◌, ◌^◌, ◌≤◌, Bool, true, false, cond, List, [], ◌∷◌, ◌++◌, length, length-append, Option, Some, None, eqb, refl, ap, sym, ◌∙◌, subst, arith, append_assoc, inl, inr, ◌⊎◌, ⊎_elim, true≢false}
use Rattle.std.specs.Prelude.{◌==◌, not, filter, if◌then◌else◌, ◌||◌}
use Rattle.std.specs.List.{filter_map, cons_option, list_any, find}
use Rattle.std.specs.Option.{option_map, option_map_or}
use Rattle.std.proofs.lemmas.Bool.{eq-eqb, ne_eqb}
use Rattle.std.proofs.lemmas.List.{append-nil}
use Rattle.std.proofs.lemmas.List.Elements.{filter-append, filter_map-append}
use Rattle.std.proofs.lemmas.List.Folds.{list_any-append}
use Rattle.tk_core.specs.declared.history.Entry.{Entry}
use Rattle.tk_core.specs.declared.reply.Reply.{Reply}
use Rattle.tk_core.specs.declared.reply.Reply.TheVariants.{Done, Number, Woken, Shown, Refused}
use Rattle.tk_core.specs.declared.reply.Refusal.TheVariants.{HandlesSpent}
use Rattle.tk_core.specs.declared.task.call.TaskCall.{TaskCall}
use Rattle.tk_core.specs.declared.task.call.TaskCall.TheVariants.{PollStart, PollEnd, Close, CloneWaker, WakeVal, WakeRef, Release, Enlist, Read}
use Rattle.tk_core.specs.declared.task.row.TaskRow.{TaskRow}
use Rattle.tk_core.specs.Fold.{is_accepted, number_of, refused_or, answer, answer_at, fold_of, reply_after}
use Rattle.tk_core.specs.History.{accepted, calls_of, history_of}
use Rattle.tk_core.specs.Legal.{own, answers, maker, may_call, has_ended, MayFollow, IsLegal}
use Rattle.tk_core.specs.Meaning.{Meaning}
use Rattle.tk_core.specs.Task.{is_clone, is_drop, is_last, owner_may, inspector_may, made_may, task_kind, IsOpening}
use Rattle.tk_core.specs.TaskMeaning.{task_meaning}
use Rattle.tk_core.specs.Laws.TaskLaws.{numbers_are_new}
use Rattle.tk_core.specs.Laws.Pushed.{or_false}
use Rattle.tk_cell.specs.Views.{times, IsDistinct}
use Rattle.tk_cell.proofs.ListLemmas.{dec_eq, times-append, times_itself, times_other}
use Rattle.tk_cell.proofs.HistoryLemmas.{some_answers, own_mine, own_other, own_unmade, maker_more, maker_last, may_made, new_number, prefix_is_legal}
use Rattle.tk_ledgers.proofs.SumLemmas.{one, tally_push}
use Rattle.tk_ledgers.specs.Sums.{tally}
use Rattle.tk_ledgers.specs.Tasks.{TaskEntries}
use Rattle.tk_ledgers.specs.Wakers.{ClonesLessDropsAreLive, new_waker, wakers, live_wakers}

-- a number that a further reply does not answer is made as before
module _ {O C R : Type 0} (m : Meaning O C R) where
  maker_other : (n : ℕ) (h : List (Entry C R)) (e : Entry C R) → answers m n e.reply ≡ false → maker m n (h ++ e ∷ []) ≡ maker m n h
  maker_other n [] e isnt = rw isnt refl
  maker_other n (x ∷ h) e isnt = go (answers m n x.reply) (maker_other n h e isnt)
    where
      go : (b : Bool) → maker m n (h ++ e ∷ []) ≡ maker m n h
          → option_map (λ (y : Entry C R). y.call) (cond b (Some x) (find (λ y. answers m n y.reply) (h ++ e ∷ [])))
          ≡ option_map (λ (y : Entry C R). y.call) (cond b (Some x) (find (λ y. answers m n y.reply) h))
      go true later = refl
      go false later = later

-- a list tested anew, where the test changed of one number alone
one_less : (p q : ℕ → Bool) (c : ℕ) (ns : List ℕ) → ((n : ℕ) → n ≢ c → p n ≡ q n) → p c ≡ true → q c ≡ false → length (filter p ns) ≡ times c ns + length (filter q ns)
one_less p q c [] same before now = refl
one_less p q c (n ∷ ns) same before now = ⊎_elim
    (λ (is : n ≡ c). let t : eqb n c ≡ true = eq-eqb n c is in
    let pn : p n ≡ true = ap p is ∙ before in let qn : q n ≡ false = ap q is ∙ now in
    rw (t, pn, qn) (omega (arith, one_less p q c ns same before now)))
    (λ (isnt : n ≢ c). let t : eqb n c ≡ false = ne_eqb n c isnt in let alike = same n isnt in
    rw (t, alike) (go (q n) (one_less p q c ns same before now)))
    (dec_eq n c)
  where
    go : (b : Bool) → length (filter p ns) ≡ times c ns + length (filter q ns)
        → length (cond b (n ∷ filter p ns) (filter p ns)) ≡ (0 + times c ns) + length (cond b (n ∷ filter q ns) (filter q ns))
    go true rest = omega (arith, rest)
    go false rest = omega (arith, rest)

filter_same : (p q : ℕ → Bool) (ns : List ℕ) → ((n : ℕ) → p n ≡ q n) → filter p ns ≡ filter q ns
filter_same p q [] same = refl
filter_same p q (n ∷ ns) same = rw (same n) (ap (λ (l : List ℕ). cond (q n) (n ∷ l) l) (filter_same p q ns same))

-- what a new entry does to the numbers of wakers
times_new : (n : ℕ) (b : Bool) (o : Option ℕ) → times n (cons_option (cond b o None) []) ≡ cond (option_map_or (λ k. k == n) o false) (cond b 1 0) 0
times_new n false None = refl
times_new n false (Some k) = go (k == n)
  where
    go : (b : Bool) → ◌≡◌ {A = ℕ} 0 (cond b 0 0)
    go true = refl
    go false = refl
times_new n true None = refl
times_new n true (Some k) = go (k == n)
  where
    go : (b : Bool) → cond b 1 0 + 0 ≡ cond b 1 0
    go true = refl
    go false = refl

-- whether a number was answered to a clone
abbrev was_cloned : Option TaskCall → ℕ
was_cloned None = 0
was_cloned (Some call) = cond (is_clone call) 1 0

module _ (h : TaskEntries) (e : Entry TaskCall (Reply TaskRow)) where
  abbrev longer : TaskEntries
  longer = h ++ e ∷ []

  wakers_push : wakers longer ≡ wakers h ++ cons_option (new_waker e) []
  wakers_push = filter_map-append new_waker h (e ∷ [])

  cloned_push : ((n : ℕ) → number_of e.reply ≡ Some n → maker task_meaning n h ≡ None)
      → ((n : ℕ) → times n (wakers h) ≡ was_cloned (maker task_meaning n h)) → (n : ℕ) → times n (wakers longer) ≡ was_cloned (maker task_meaning n longer)
  cloned_push fresh before n =
      let all : times n (wakers longer) ≡ times n (wakers h) + cond (answers task_meaning n e.reply) (cond (is_clone e.call) 1 0) 0 =
      ap (λ (l : List ℕ). times n l) wakers_push ∙ (times-append n (wakers h) (cons_option (new_waker e) []) ∙ ap (λ (k : ℕ). times n (wakers h) + k) (times_new n (is_clone e.call) (number_of e.reply))) in
      go (answers task_meaning n e.reply) refl all
    where
      go : (b : Bool) → answers task_meaning n e.reply ≡ b → times n (wakers longer) ≡ times n (wakers h) + cond b (cond (is_clone e.call) 1 0) 0 → times n (wakers longer) ≡ was_cloned (maker task_meaning n longer)
      go true is all =
          let number : number_of e.reply ≡ Some n = some_answers task_meaning n e.reply is in
          let none = fresh n number in
          let zero_before : times n (wakers h) ≡ 0 = before n ∙ ap was_cloned none in
          let now : was_cloned (maker task_meaning n longer) ≡ cond (is_clone e.call) 1 0 = ap was_cloned (maker_last task_meaning n h e none number) in
          omega (arith, all, zero_before, now)
      go false isnt all = let same = ap was_cloned (maker_other task_meaning n h e isnt) in omega (arith, all, before n, same)

  -- who has ended, with one more entry
  ended_push : (n : ℕ) → has_ended task_meaning longer n ≡ (has_ended task_meaning h n || cond (e.caller == n) (is_last e.call || false) false)
  ended_push n =
      let both : own n longer ≡ own n h ++ cond (e.caller == n) (e ∷ []) [] = filter-append (λ (x : Entry TaskCall (Reply TaskRow)). x.caller == n) h (e ∷ []) in
      ap (λ (l : TaskEntries). list_any (λ x. is_last x.call) l) both ∙ (list_any-append (λ x. is_last x.call) (own n h) (cond (e.caller == n) (e ∷ []) []) ∙ ap (λ (b : Bool). has_ended task_meaning h n || b) (go (e.caller == n)))
    where
      go : (b : Bool) → list_any (λ x. is_last x.call) (cond b (e ∷ []) []) ≡ cond b (is_last e.call || false) false
      go true = refl
      go false = refl

  goes_on : (n : ℕ) → is_last e.call ≡ false → has_ended task_meaning longer n ≡ has_ended task_meaning h n
  goes_on n going = ended_push n ∙ (ap (λ (l : Bool). has_ended task_meaning h n || cond (e.caller == n) (l || false) false) going ∙ go (has_ended task_meaning h n) (e.caller == n))
    where
      go : (a b : Bool) → (a || cond b (false || false) false) ≡ a
      go true b = refl
      go false true = refl
      go false false = refl

  other_goes_on : (n : ℕ) → n ≢ e.caller → has_ended task_meaning longer n ≡ has_ended task_meaning h n
  other_goes_on n isnt = ended_push n ∙ (ap (λ (b : Bool). has_ended task_meaning h n || cond b (is_last e.call || false) false) (ne_eqb e.caller n (λ s. isnt (sym s))) ∙ or_false (has_ended task_meaning h n))

  ends : is_last e.call ≡ true → has_ended task_meaning h e.caller ≡ false → has_ended task_meaning longer e.caller ≡ true
  ends last going = ended_push e.caller ∙ rw (going, eq-eqb e.caller e.caller refl, last) refl

-- a clone is accepted exactly where it answers a number
cloned : (call : TaskCall) (row : TaskRow) → is_clone call ≡ true → length (cons_option (number_of (answer_at task_kind row call)) []) ≡ cond (is_accepted (answer_at task_kind row call)) 1 0
cloned CloneWaker row is = go (row.handles == 2 ^ 62)
  where
    go : (b : Bool) → length (cons_option (number_of {Row = TaskRow} (refused_or (cond b (Some HandlesSpent) None) (Number (row.handles + 1)))) []) ≡ cond (is_accepted {Row = TaskRow} (refused_or (cond b (Some HandlesSpent) None) (Number (row.handles + 1)))) 1 0
    go true = refl
    go false = refl
cloned (PollStart m) row is = absurd cc
cloned (PollEnd m) row is = absurd cc
cloned (Close m) row is = absurd cc
cloned (WakeVal m from_self) row is = absurd cc
cloned (WakeRef m from_self) row is = absurd cc
cloned Release row is = absurd cc
cloned Enlist row is = absurd cc
cloned Read row is = absurd cc

-- a call that drops a waker is accepted, and answers no number
dropped : (call : TaskCall) (row : TaskRow) → is_drop call ≡ true → (is_accepted (answer_at task_kind row call) ≡ true) × (number_of (answer_at task_kind row call) ≡ None)
dropped (WakeVal m from_self) row is = (refl, refl)
dropped Release row is = (refl, refl)
dropped (PollStart m) row is = absurd cc
dropped (PollEnd m) row is = absurd cc
dropped (Close m) row is = absurd cc
dropped CloneWaker row is = absurd cc
dropped (WakeRef m from_self) row is = absurd cc
dropped Enlist row is = absurd cc
dropped Read row is = absurd cc

not_by_inspector : (call : TaskCall) → is_drop call ≡ true → inspector_may call ≡ false
not_by_inspector (WakeVal m from_self) is = refl
not_by_inspector Release is = refl
not_by_inspector (PollStart m) is = absurd cc
not_by_inspector (PollEnd m) is = absurd cc
not_by_inspector (Close m) is = absurd cc
not_by_inspector CloneWaker is = absurd cc
not_by_inspector (WakeRef m from_self) is = absurd cc
not_by_inspector Enlist is = absurd cc
not_by_inspector Read is = absurd cc

-- it is made by a waker
by_waker : (call made : TaskCall) → is_drop call ≡ true → made_may made call ≡ true → is_clone made ≡ true
by_waker call CloneWaker is may = refl
by_waker call Enlist is may = absurd (true≢false (sym may ∙ not_by_inspector call is))
by_waker call (PollStart m) is may = absurd cc
by_waker call (PollEnd m) is may = absurd cc
by_waker call (Close m) is may = absurd cc
by_waker call (WakeVal m from_self) is may = absurd cc
by_waker call (WakeRef m from_self) is may = absurd cc
by_waker call Release is may = absurd cc
by_waker call Read is may = absurd cc

not_by_owner : (call : TaskCall) → is_drop call ≡ true → owner_may call ≡ false
not_by_owner (WakeVal m from_self) is = refl
not_by_owner Release is = refl
not_by_owner (PollStart m) is = absurd cc
not_by_owner (PollEnd m) is = absurd cc
not_by_owner (Close m) is = absurd cc
not_by_owner CloneWaker is = absurd cc
not_by_owner (WakeRef m from_self) is = absurd cc
not_by_owner Enlist is = absurd cc
not_by_owner Read is = absurd cc

-- and is no clone
no_clone : (call : TaskCall) → is_drop call ≡ true → is_clone call ≡ false
no_clone (WakeVal m from_self) is = refl
no_clone Release is = refl
no_clone (PollStart m) is = absurd cc
no_clone (PollEnd m) is = absurd cc
no_clone (Close m) is = absurd cc
no_clone CloneWaker is = absurd cc
no_clone (WakeRef m from_self) is = absurd cc
no_clone Enlist is = absurd cc
no_clone Read is = absurd cc

module _ (opening : TaskRow) (h : TaskEntries) (e : Entry TaskCall (Reply TaskRow)) where
  -- the reply is the answer in some row
  answered : MayFollow task_meaning opening h e → (row : TaskRow) × (e.reply ≡ answer_at task_kind row e.call)
  unfolding reply_after
  answered follows = (fold_of task_kind opening (history_of (answer task_kind opening) (calls_of h)), follows.reply)

  -- where no waker is dropped, the live ones stay and a new one joins them
  live_stays : (follows : MayFollow task_meaning opening h e) → ((n : ℕ) → number_of e.reply ≡ Some n → own n h ≡ []) → is_drop e.call ≡ false
      → ClonesLessDropsAreLive h → ClonesLessDropsAreLive (h ++ e ∷ [])
  live_stays follows fresh keeps before =
      let test : ℕ → Bool = λ n. not (has_ended task_meaning (h ++ e ∷ []) n) in
      let old : filter test (wakers h) ≡ live_wakers h = filter_same test (λ n. not (has_ended task_meaning h n)) (wakers h) (λ n. ap not (goes_on h e n keeps)) in
      let new : filter test (cons_option (new_waker e) []) ≡ cons_option (new_waker e) [] = lives (is_clone e.call) (number_of e.reply) (λ n is. ap not (goes_on h e n keeps ∙ ap (λ (l : TaskEntries). list_any (λ x. is_last x.call) l) (fresh n is))) in
      let all : live_wakers (h ++ e ∷ []) ≡ live_wakers h ++ cons_option (new_waker e) [] =
      ap (λ (l : List ℕ). filter test l) (wakers_push h e) ∙ (filter-append test (wakers h) (cons_option (new_waker e) []) ∙ (ap (λ (l : List ℕ). l ++ filter test (cons_option (new_waker e) [])) old ∙ ap (λ (l : List ℕ). live_wakers h ++ l) new)) in
      let count : length (live_wakers (h ++ e ∷ [])) ≡ length (live_wakers h) + length (cons_option (new_waker e) []) = ap (λ (l : List ℕ). length l) all ∙ length-append (live_wakers h) (cons_option (new_waker e) []) in
      let clones = tally_push is_clone h e in let drops = tally_push is_drop h e in
      let no_drop : one is_drop e ≡ 0 = none_of (is_accepted e.reply) keeps in
      let one_clone : one is_clone e ≡ length (cons_option (new_waker e) []) = clone_of (is_clone e.call) refl in
      omega (arith, before, count, clones, drops, no_drop, one_clone)
    where
      lives : (b : Bool) (o : Option ℕ) → ((n : ℕ) → o ≡ Some n → not (has_ended task_meaning (h ++ e ∷ []) n) ≡ true)
          → filter (λ n. not (has_ended task_meaning (h ++ e ∷ []) n)) (cons_option (cond b o None) []) ≡ cons_option (cond b o None) []
      lives false o live = refl
      lives true None live = refl
      lives true (Some k) live = rw (live k refl) refl

      none_of : (b : Bool) → is_drop e.call ≡ false → length (filter is_drop (cond b (e.call ∷ []) [])) ≡ 0
      none_of true isnt = rw isnt refl
      none_of false isnt = refl

      clone_of : (b : Bool) → is_clone e.call ≡ b → length (filter is_clone (cond (is_accepted e.reply) (e.call ∷ []) [])) ≡ length (cons_option (cond b (number_of e.reply) None) [])
      clone_of false isnt = go (is_accepted e.reply)
        where
          go : (a : Bool) → length (filter is_clone (cond a (e.call ∷ []) [])) ≡ 0
          go true = rw isnt refl
          go false = refl
      clone_of true is =
          let r = answered follows in
          let accepted_one : length (cons_option (number_of e.reply) []) ≡ cond (is_accepted e.reply) 1 0 = subst (λ (x : Reply TaskRow). length (cons_option (number_of x) []) ≡ cond (is_accepted x) 1 0) (sym r.1) (cloned e.call r.0 is) in
          go (is_accepted e.reply) ∙ sym accepted_one
        where
          go : (a : Bool) → length (filter is_clone (cond a (e.call ∷ []) [])) ≡ cond a 1 0
          go true = rw is refl
          go false = refl

  -- where a waker is dropped, it was live and is so no more
  live_falls : MayFollow task_meaning opening h e → times e.caller (wakers h) ≡ was_cloned (maker task_meaning e.caller h) → is_drop e.call ≡ true
      → ClonesLessDropsAreLive h → ClonesLessDropsAreLive (h ++ e ∷ [])
  live_falls follows made is before =
      let r = answered follows in
      let d = dropped e.call r.0 is in
      let accepts : is_accepted e.reply ≡ true = ap is_accepted r.1 ∙ d.0 in
      let no_number : number_of e.reply ≡ None = ap number_of r.1 ∙ d.1 in
      let isnt_clone = no_clone e.call is in
      let no_waker : new_waker e ≡ None = rw isnt_clone refl in
      let same : wakers (h ++ e ∷ []) ≡ wakers h = wakers_push h e ∙ (ap (λ (o : Option ℕ). wakers h ++ cons_option o []) no_waker ∙ append-nil (wakers h)) in
      let not_owner : e.caller ≢ 0 = λ z. true≢false (sym (subst (λ (n : ℕ). may_call task_meaning h n e.call ≡ true) z follows.role) ∙ not_by_owner e.call is) in
      let allowed = may_made task_meaning e.caller h e.call not_owner follows.role in
      let may : made_may allowed.0 e.call ≡ true = by_role e.call allowed.0 allowed.1 not_owner follows.role in
      let once : times e.caller (wakers h) ≡ 1 = made ∙ (ap was_cloned allowed.1 ∙ ap (λ (b : Bool). cond b 1 0) (by_waker e.call allowed.0 is may)) in
      let fewer : length (live_wakers h) ≡ times e.caller (wakers h) + length (filter (λ n. not (has_ended task_meaning (h ++ e ∷ []) n)) (wakers h)) =
      one_less (λ n. not (has_ended task_meaning h n)) (λ n. not (has_ended task_meaning (h ++ e ∷ []) n)) e.caller (wakers h)
      (λ n isnt. ap not (sym (other_goes_on h e n isnt))) (ap not follows.going) (ap not (ends h e is follows.going)) in
      let now : length (live_wakers (h ++ e ∷ [])) ≡ length (filter (λ n. not (has_ended task_meaning (h ++ e ∷ []) n)) (wakers h)) = ap (λ (l : List ℕ). length (filter (λ n. not (has_ended task_meaning (h ++ e ∷ []) n)) l)) same in
      let clones = tally_push is_clone h e in let drops = tally_push is_drop h e in
      let one_drop : one is_drop e ≡ 1 = rw (accepts, is) refl in
      let none_cloned : one is_clone e ≡ 0 = rw (accepts, isnt_clone) refl in
      omega (arith, before, once, fewer, now, clones, drops, one_drop, none_cloned)
    where
      by_role : (call made : TaskCall) → maker task_meaning e.caller h ≡ Some made → e.caller ≢ 0 → may_call task_meaning h e.caller call ≡ true → made_may made call ≡ true
      by_role call made is ne may = rw (ne_eqb e.caller 0 ne, is) at may

-- what is known of a history, entry by entry
record Counted (h : TaskEntries) : Type 0 where
  made : (n : ℕ) → times n (wakers h) ≡ was_cloned (maker task_meaning n h)
  live : ClonesLessDropsAreLive h

module _ (opening : TaskRow) (opens : IsOpening opening) where
  counted_push : (h : TaskEntries) (e : Entry TaskCall (Reply TaskRow)) → IsLegal task_meaning opening h → MayFollow task_meaning opening h e → Counted h → Counted (h ++ e ∷ [])
  counted_push h e legal follows before =
      let fresh : (n : ℕ) → number_of e.reply ≡ Some n → (n ≢ 0) × (maker task_meaning n h ≡ None) =
      λ n is. new_number task_meaning opening numbers_are_new opens h legal e.call n (ap number_of (sym follows.reply) ∙ is) in
      record {
        made = cloned_push h e (λ n is. (fresh n is).1) before.made;
        live = go (is_drop e.call) refl fresh;
      }
    where
      go : (b : Bool) → is_drop e.call ≡ b → ((n : ℕ) → number_of e.reply ≡ Some n → (n ≢ 0) × (maker task_meaning n h ≡ None)) → ClonesLessDropsAreLive (h ++ e ∷ [])
      go true is fresh = live_falls opening h e follows (before.made e.caller) is before.live
      go false isnt fresh = live_stays opening h e follows (λ n is. own_unmade task_meaning opening n h legal (fresh n is).0 (fresh n is).1) isnt before.live

  counted_on : (h rest : TaskEntries) → IsLegal task_meaning opening (h ++ rest) → Counted h → Counted (h ++ rest)
  counted_on h [] legal before = subst (λ (l : TaskEntries). Counted l) (sym (append-nil h)) before
  counted_on h (e ∷ rest) legal before =
      let same : (h ++ e ∷ []) ++ rest ≡ h ++ e ∷ rest = append_assoc h (e ∷ []) rest in
      let here : IsLegal task_meaning opening h = prefix_is_legal task_meaning opening h (h ++ e ∷ rest) (e ∷ rest, refl) legal in
      subst (λ (l : TaskEntries). Counted l) same
      (counted_on (h ++ e ∷ []) rest (subst (λ (l : TaskEntries). IsLegal task_meaning opening l) (sym same) legal) (counted_push h e here (legal h rest e refl) before))

  counted : (h : TaskEntries) → IsLegal task_meaning opening h → Counted h
  unfolding accepted
  counted h legal = counted_on [] h legal (record { made = λ n. refl; live = refl })

pub each_is_distinct : (opening : TaskRow) (h : TaskEntries) → IsOpening opening → IsLegal task_meaning opening h → IsDistinct (wakers h)
each_is_distinct opening h opens legal n = go (maker task_meaning n h) ((counted opening opens h legal).made n)
  where
    go : (o : Option TaskCall) → times n (wakers h) ≡ was_cloned o → times n (wakers h) ≤ 1
    go None is = omega (arith, is)
    go (Some call) is = one_at_most (is_clone call) is
      where
        one_at_most : (b : Bool) → times n (wakers h) ≡ cond b 1 0 → times n (wakers h) ≤ 1
        one_at_most true at_one = omega (arith, at_one)
        one_at_most false at_none = omega (arith, at_none)

pub clones_less_drops : (opening : TaskRow) (h : TaskEntries) → IsOpening opening → IsLegal task_meaning opening h → ClonesLessDropsAreLive h
clones_less_drops opening h opens legal = (counted opening opens h legal).live
