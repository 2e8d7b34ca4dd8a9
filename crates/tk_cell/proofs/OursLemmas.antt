-- The entries of the callers that a token holds, in order.
use Rattle.std.proofs.Common.{◌≡◌, ◌≢◌, ℕ, zero, suc, ◌+◌, ◌<◌, ◌==◌, Bool, true, false, not, List, [], ◌∷◌, ◌++◌, length, filter, cond, Option, Some, None, refl, ap, sym, ◌∙◌, subst, arith, append_assoc, length-append, inl, inr, ◌⊎◌, ⊎_elim, true≢false}
use Rattle.std.specs.List.{find}
use Rattle.std.specs.Option.{option_map}
use Rattle.std.proofs.lemmas.List.{append-nil, nil_from_length}
use Rattle.std.proofs.lemmas.List.Elements.{filter-append}
use Rattle.std.proofs.lemmas.Bool.{eq-eqb, ne_eqb}
use mathlib.Core.List.{IsPrefix}
use Rattle.tk_core.specs.declared.history.Entry.{Entry}
use Rattle.tk_core.specs.Meaning.{Meaning}
use Rattle.tk_core.specs.Legal.{own, answers, maker, IsLegal}
use Rattle.tk_cell.specs.declared.view.View.{View}
use Rattle.tk_cell.specs.Views.{times, list_of, Holds}
use Rattle.tk_cell.specs.Calls.{entry, Calls}
use Rattle.tk_cell.specs.Ours.{Interleaves, is_held, of_held, ours, HoldsAll, CallsInOrder, HearingAddsNothing, MeetingAddsNothing, JoinsInterleave, HoldsItsOwn, AllAreOurs, ItsOwnAreAll, IsAlone}
use Rattle.tk_cell.proofs.ListLemmas.{dec_eq, prefix_self, times-append}
use Rattle.tk_cell.proofs.HistoryLemmas.{own_mine, own_other, maker_more, may_made, some_answers}
use Rattle.tk_cell.proofs.CallLemmas.{list_times}

module _ {C R : Type 0} where
  tail_none : (n : ℕ) (x : Entry C R) (l : List (Entry C R)) → own n (x ∷ l) ≡ [] → own n l ≡ []
  tail_none n x l = go (x.caller == n)
    where
      go : (b : Bool) → cond b (x ∷ own n l) (own n l) ≡ [] → own n l ≡ []
      go true e = absurd cc
      go false e = e

  pub head_some : (x : Entry C R) (l : List (Entry C R)) → own x.caller (x ∷ l) ≡ [] → ⊥
  head_some x l = go (x.caller == x.caller) (eq-eqb x.caller x.caller refl)
    where
      go : (b : Bool) → b ≡ true → cond b (x ∷ own x.caller l) (own x.caller l) ≡ [] → ⊥
      go true is e = cc
      go false is e = true≢false (sym is)

  -- of callers with no entry there is none
  filter_none : (P : ℕ → Bool) (l : List (Entry C R)) → ((n : ℕ) → P n ≡ true → own n l ≡ []) → filter (λ e. P e.caller) l ≡ []
  filter_none P [] none = refl
  filter_none P (x ∷ l) none = go (P x.caller) refl (filter_none P l (λ n t. tail_none n x l (none n t)))
    where
      go : (b : Bool) → P x.caller ≡ b → filter (λ e. P e.caller) l ≡ [] → cond b (x ∷ filter (λ e. P e.caller) l) (filter (λ e. P e.caller) l) ≡ []
      go true is rest = absurd (head_some x l (none x.caller is))
      go false is rest = rest

  -- two tests that differ at callers with no entry alone
  filter_same : (P Q : ℕ → Bool) (l : List (Entry C R)) → ((n : ℕ) → (P n ≡ Q n) ⊎ (own n l ≡ [])) → filter (λ e. P e.caller) l ≡ filter (λ e. Q e.caller) l
  filter_same P Q [] same = refl
  filter_same P Q (x ∷ l) same =
      let rest : filter (λ (y : Entry C R). P y.caller) l ≡ filter (λ (y : Entry C R). Q y.caller) l = filter_same P Q l (λ n. ⊎_elim (λ (e : P n ≡ Q n). inl e) (λ (none : own n (x ∷ l) ≡ []). inr (tail_none n x l none)) (same n)) in
      ⊎_elim
      (λ (e : P x.caller ≡ Q x.caller). (ap (λ (b : Bool). cond b (x ∷ filter (λ (y : Entry C R). P y.caller) l) (filter (λ (y : Entry C R). P y.caller) l)) e)
      ∙ ap (λ (t : List (Entry C R)). cond (Q x.caller) (x ∷ t) t) rest)
      (λ (none : own x.caller (x ∷ l) ≡ []). absurd (head_some x l none))
      (same x.caller)

  -- each entry passes
  filter_all : (P : ℕ → Bool) (l : List (Entry C R)) → ((before after : List (Entry C R)) (x : Entry C R) → before ++ x ∷ after ≡ l → P x.caller ≡ true) → filter (λ e. P e.caller) l ≡ l
  filter_all P [] all = refl
  filter_all P (x ∷ l) all = rw (all [] l x refl) (ap (λ (t : List (Entry C R)). x ∷ t) (filter_all P l (λ before after y cut. all (x ∷ before) after y (ap (λ (t : List (Entry C R)). x ∷ t) cut))))

  -- no entry of n was added
  pub more_none : (n : ℕ) (a b : List (Entry C R)) → own n (a ++ b) ≡ own n a → own n b ≡ []
  more_none n a b same =
      let both : own n (a ++ b) ≡ own n a ++ own n b = filter-append (λ (x : Entry C R). x.caller == n) a b in
      let long : length (own n a) ≡ length (own n a) + length (own n b) = ap (λ (l : List (Entry C R)). length l) (sym same ∙ both) ∙ length-append (own n a) (own n b) in
      nil_from_length (own n b) (omega (arith, long))

  -- what passes one of two tests that exclude each other
  filter_interleaves : (P Q S : ℕ → Bool) (l : List (Entry C R))
      → ((n : ℕ) → ((S n ≡ true) × (P n ≡ true) × (Q n ≡ false)) ⊎ (((S n ≡ true) × (P n ≡ false) × (Q n ≡ true)) ⊎ ((S n ≡ false) × (P n ≡ false) × (Q n ≡ false))))
      → Interleaves (filter (λ e. P e.caller) l) (filter (λ e. Q e.caller) l) (filter (λ e. S e.caller) l)
  filter_interleaves P Q S [] each = (refl, refl)
  filter_interleaves P Q S (x ∷ l) each =
      let rest = filter_interleaves P Q S l each in ⊎_elim
      (λ (t : (S x.caller ≡ true) × (P x.caller ≡ true) × (Q x.caller ≡ false)). rw (t.0, t.1, t.2) (inl (filter (λ e. P e.caller) l, refl, rest)))
      (λ (u : ((S x.caller ≡ true) × (P x.caller ≡ false) × (Q x.caller ≡ true)) ⊎ ((S x.caller ≡ false) × (P x.caller ≡ false) × (Q x.caller ≡ false))). ⊎_elim
      (λ (t : (S x.caller ≡ true) × (P x.caller ≡ false) × (Q x.caller ≡ true)). rw (t.0, t.1, t.2) (inr (filter (λ e. Q e.caller) l, refl, rest)))
      (λ (t : (S x.caller ≡ false) × (P x.caller ≡ false) × (Q x.caller ≡ false)). rw (t.0, t.1, t.2) rest)
      u)
      (each x.caller)

-- lists that begin with the same go on with the same
append_left : {A : Type 0} (p a b : List A) → p ++ a ≡ p ++ b → a ≡ b
append_left [] a b e = e
append_left (x ∷ p) a b e = append_left p a b cc

positive : (k : ℕ) → not (k == 0) ≡ true → 0 < k
positive zero e = absurd cc
positive (suc k) e = omega arith

test_positive : (k : ℕ) → 0 < k → not (k == 0) ≡ true
test_positive zero lt = absurd (omega (arith, lt))
test_positive (suc k) lt = ap not (ne_eqb (suc k) 0 (λ (is : suc k ≡ 0). absurd (omega (arith, is))))

test_zero : (k : ℕ) → k ≡ 0 → not (k == 0) ≡ false
test_zero k is = ap (λ (j : ℕ). not (j == 0)) is

module _ {O C R : Type 0} where
  -- a longer history in which the callers that are held have no more entries
  of_longer : (v : View O C R) (a b : List (Entry C R)) → ((n : ℕ) → Holds v n → own n b ≡ []) → of_held v (a ++ b) ≡ of_held v a
  of_longer v a b none =
      filter-append (λ (e : Entry C R). is_held v e.caller) a b
      ∙ (ap (λ (t : List (Entry C R)). of_held v a ++ t) (filter_none (λ n. is_held v n) b (λ n t. none n (positive (times n v.held) t))) ∙ append-nil (of_held v a))

  ours_longer : (v : View O C R) (long : List (Entry C R)) → IsPrefix v.seen long → ((n : ℕ) → Holds v n → own n long ≡ own n v.seen) → of_held v long ≡ ours v
  ours_longer v long p same =
      ap (λ (t : List (Entry C R)). of_held v t) (sym p.1)
      ∙ of_longer v v.seen p.0 (λ n some_held. more_none n v.seen p.0 (ap (λ (t : List (Entry C R)). own n t) p.1 ∙ same n some_held))

module _ {C R : Type 0} where
  -- the longer of two begins with each
  pub first_begins : (a b w : List (Entry C R)) → (IsPrefix a b × (w ≡ b)) ⊎ (IsPrefix b a × (w ≡ a)) → IsPrefix a w
  first_begins a b w longer = ⊎_elim
      (λ (t : IsPrefix a b × (w ≡ b)). subst (λ (x : List (Entry C R)). IsPrefix a x) (sym t.1) t.0)
      (λ (t : IsPrefix b a × (w ≡ a)). subst (λ (x : List (Entry C R)). IsPrefix a x) (sym t.1) (prefix_self a)) longer

  second_begins : (a b w : List (Entry C R)) → (IsPrefix a b × (w ≡ b)) ⊎ (IsPrefix b a × (w ≡ a)) → IsPrefix b w
  second_begins a b w longer = ⊎_elim
      (λ (t : IsPrefix a b × (w ≡ b)). subst (λ (x : List (Entry C R)). IsPrefix b x) (sym t.1) (prefix_self b))
      (λ (t : IsPrefix b a × (w ≡ a)). subst (λ (x : List (Entry C R)). IsPrefix b x) (sym t.1) t.0) longer

module _ {O C R : Type 0} (m : Meaning O C R) where
  module _ (v w : View O C R) (call : C) (reply : R) (c : Calls m v call reply w) where
    abbrev e : Entry C R
    e = entry v.caller call reply

    -- those of others that came between are of no caller that is held
    pub between_none : (n : ℕ) → Holds v n → own n c.between ≡ []
    between_none n some_held = ⊎_elim
        (λ (is : n ≡ v.caller). subst (λ (k : ℕ). own k c.between ≡ []) (sym is) mine)
        (λ (ne : n ≢ v.caller). more_none n v.seen c.between
        (sym (own_other n (v.seen ++ c.between) e (λ s. ne (sym s))) ∙ (ap (λ (t : List (Entry C R)). own n t) (sym c.grows) ∙ c.others n some_held ne)))
        (dec_eq n v.caller)
      where
        mine : own v.caller c.between ≡ []
        mine =
            let f : Entry C R → Bool = λ x. x.caller == v.caller in
            let all : own v.caller (v.seen ++ c.between) ++ e ∷ [] ≡ own v.caller v.seen ++ e ∷ [] = sym (own_mine v.caller (v.seen ++ c.between) e refl) ∙ (ap (λ (t : List (Entry C R)). own v.caller t) (sym c.grows) ∙ c.mine) in
            let both : own v.caller (v.seen ++ c.between) ≡ own v.caller v.seen ++ own v.caller c.between = filter-append f v.seen c.between in
            let l1 = ap (λ (t : List (Entry C R)). length t) all in
            let l2 = length-append (own v.caller (v.seen ++ c.between)) (e ∷ []) in
            let l3 = length-append (own v.caller v.seen) (e ∷ []) in
            let l4 : length (own v.caller (v.seen ++ c.between)) ≡ length (own v.caller v.seen) + length (own v.caller c.between) = ap (λ (t : List (Entry C R)). length t) both ∙ length-append (own v.caller v.seen) (own v.caller c.between) in
            nil_from_length (own v.caller c.between) (omega (arith, l1, l2, l3, l4))

    times_now : (n : ℕ) → times n w.held ≡ times n v.held + times n (list_of (m.number reply))
    times_now n = ap (λ (l : List ℕ). times n l) c.now_held ∙ times-append n v.held (list_of (m.number reply))

    same_test : (n : ℕ) → (is_held w n ≡ is_held v n) ⊎ (own n w.seen ≡ [])
    same_test n = ⊎_elim
        (λ (s : (m.number reply ≡ Some n) × (times n (list_of (m.number reply)) ≡ 1)). inr (c.drawn n s.0))
        (λ (s : times n (list_of (m.number reply)) ≡ 0). let t = times_now n in let same : times n w.held ≡ times n v.held = omega (arith, t, s) in inl (ap (λ (k : ℕ). not (k == 0)) same))
        (list_times n (m.number reply))

    pub call_in_order : ours w ≡ ours v ++ e ∷ []
    call_in_order =
        let f : Entry C R → Bool = λ x. is_held v x.caller in
        filter_same (λ n. is_held w n) (λ n. is_held v n) w.seen same_test
        ∙ (ap (λ (t : List (Entry C R)). of_held v t) c.grows
        ∙ (filter-append f (v.seen ++ c.between) (e ∷ [])
        ∙ (ap (λ (t : List (Entry C R)). t ++ of_held v (e ∷ [])) (of_longer v v.seen c.between between_none)
        ∙ ap (λ (t : List (Entry C R)). ours v ++ t) itself)))
      where
        itself : of_held v (e ∷ []) ≡ e ∷ []
        itself = rw (test_positive (times v.caller v.held) c.holds_itself) refl

    -- where it holds all callers, nothing came between
    module _ (all : HoldsAll m v) where
      caller_held : (x : Entry C R) (after : List (Entry C R)) → v.seen ++ x ∷ after ≡ w.seen → Holds v x.caller
      caller_held x after cut =
          let follows = c.legal v.seen after x cut in
          ⊎_elim (λ (z : x.caller ≡ 0). subst (λ (k : ℕ). Holds v k) (sym z) all.0)
          (λ (ne : x.caller ≢ 0). let made = may_made m x.caller v.seen x.call ne follows.role in all.1 x.caller made.0 made.1)
          (dec_eq x.caller 0)

      nothing_between : c.between ≡ []
      nothing_between = go c.between refl
        where
          go : (l : List (Entry C R)) → c.between ≡ l → l ≡ []
          go [] is = refl
          go (x ∷ rest) is =
              let cut : v.seen ++ x ∷ (rest ++ e ∷ []) ≡ w.seen = sym (append_assoc v.seen (x ∷ rest) (e ∷ [])) ∙ (ap (λ (t : List (Entry C R)). (v.seen ++ t) ++ e ∷ []) (sym is) ∙ sym c.grows) in
              absurd (head_some x rest (ap (λ (t : List (Entry C R)). own x.caller t) (sym is) ∙ between_none x.caller (caller_held x (rest ++ e ∷ []) cut)))

      pub grows_alone : w.seen ≡ v.seen ++ e ∷ []
      grows_alone = c.grows ∙ (ap (λ (t : List (Entry C R)). (v.seen ++ t) ++ e ∷ []) nothing_between ∙ ap (λ (t : List (Entry C R)). t ++ e ∷ []) (append-nil v.seen))

      holds_more : (n : ℕ) → Holds v n → Holds w n
      holds_more n some_held = let t = times_now n in omega (arith, t, some_held)

      pub holds_all_again : HoldsAll m w
      holds_all_again = (
        holds_more 0 all.0,
        λ n made is. ⊎_elim
            (λ (before : maker m n v.seen ≡ Some made). holds_more n (all.1 n made before))
            (λ (now : m.number reply ≡ Some n). ⊎_elim
            (λ (s : (m.number reply ≡ Some n) × (times n (list_of (m.number reply)) ≡ 1)). let t = times_now n in omega (arith, t, s.1))
            (λ (s : times n (list_of (m.number reply)) ≡ 0). absurd (stands n (m.number reply) now s))
            (list_times n (m.number reply)))
            (made_before n v.seen e made (subst (λ (l : List (Entry C R)). maker m n l ≡ Some made) grows_alone is)),
      )
        where
          stands : (n : ℕ) (o : Option ℕ) → o ≡ Some n → times n (list_of o) ≡ 0 → ⊥
          stands n None is none = cc
          stands n (Some k) is none = let t : k ≡ n = cc in let u = Rattle.tk_cell.proofs.ListLemmas.times_itself n in
              let v0 : times n (n ∷ []) ≡ 0 = subst (λ (j : ℕ). times n (j ∷ []) ≡ 0) t none in omega (arith, u, v0)

          -- a number is made by the last entry, or was before
          made_before : (n : ℕ) (h : List (Entry C R)) (x : Entry C R) (made : C) → maker m n (h ++ x ∷ []) ≡ Some made → (maker m n h ≡ Some made) ⊎ (m.number x.reply ≡ Some n)
          made_before n [] x made is = go (answers m n x.reply) refl is
            where
              go : (b : Bool) → answers m n x.reply ≡ b → option_map (λ (y : Entry C R). y.call) (cond b (Some x) None) ≡ Some made → (maker m n [] ≡ Some made) ⊎ (m.number x.reply ≡ Some n)
              go true it found = inr (some_answers m n x.reply it)
              go false it found = absurd cc
          made_before n (y ∷ h) x made is = go (answers m n y.reply) (made_before n h x made) is
            where
              go : (b : Bool) → (maker m n (h ++ x ∷ []) ≡ Some made → (maker m n h ≡ Some made) ⊎ (m.number x.reply ≡ Some n))
                  → option_map (λ (z : Entry C R). z.call) (cond b (Some y) (find (λ z. answers m n z.reply) (h ++ x ∷ []))) ≡ Some made
                  → (option_map (λ (z : Entry C R). z.call) (cond b (Some y) (find (λ z. answers m n z.reply) h)) ≡ Some made) ⊎ (m.number x.reply ≡ Some n)
              go true later found = inl found
              go false later found = later found

  pub calls_in_order : CallsInOrder m
  calls_in_order v w call reply c = call_in_order v w call reply c

  pub is_alone : IsAlone m
  is_alone v w call reply all c = (grows_alone v w call reply c all, holds_all_again v w call reply c all)

  pub hearing_adds_nothing : HearingAddsNothing m
  hearing_adds_nothing v heard w h =
      ap (λ (l : List ℕ). filter (λ (e : Entry C R). not (times e.caller l == 0)) w.seen) h.now_held
      ∙ ours_longer v w.seen (first_begins v.seen heard.seen w.seen h.longer) h.mine

  pub meeting_adds_nothing : MeetingAddsNothing m
  meeting_adds_nothing v other w u h = (
    ap (λ (l : List ℕ). filter (λ (e : Entry C R). not (times e.caller l == 0)) w.seen) (ap (λ (x : View O C R). x.held) h.first_is)
        ∙ ours_longer v w.seen (first_begins v.seen other.seen w.seen h.longer) h.first,
    ap (λ (l : List ℕ). filter (λ (e : Entry C R). not (times e.caller l == 0)) u.seen) (ap (λ (x : View O C R). x.held) h.second_is)
        ∙ (ap (λ (t : List (Entry C R)). of_held other t) (ap (λ (x : View O C R). x.seen) h.second_is)
        ∙ ours_longer other w.seen (second_begins v.seen other.seen w.seen h.longer) h.second),
  )

  pub joins_interleave : JoinsInterleave m
  joins_interleave v other w j shared a b is_a is_b =
      let p = first_begins v.seen other.seen w.seen j.longer in
      let q = second_begins v.seen other.seen w.seen j.longer in
      let whole : w.seen ≡ shared ++ (a ++ p.0) = sym p.1 ∙ (ap (λ (t : List (Entry C R)). t ++ p.0) is_a ∙ append_assoc shared a p.0) in
      let same : a ++ p.0 ≡ b ++ q.0 = append_left shared (a ++ p.0) (b ++ q.0) (sym whole ∙ (sym q.1 ∙ (ap (λ (t : List (Entry C R)). t ++ q.0) is_b ∙ append_assoc shared b q.0))) in
      let one : of_held v (a ++ p.0) ≡ of_held v a = of_longer v a p.0 (λ n some_held. more_none n v.seen p.0 (ap (λ (t : List (Entry C R)). own n t) p.1 ∙ j.first n some_held)) in
      let two : of_held other (a ++ p.0) ≡ of_held other b = ap (λ (t : List (Entry C R)). of_held other t) same ∙ of_longer other b q.0 (λ n some_held. more_none n other.seen q.0 (ap (λ (t : List (Entry C R)). own n t) q.1 ∙ j.second n some_held)) in (
        a ++ p.0,
        whole,
        subst (λ (t : List (Entry C R)). Interleaves t (of_held other b) (of_held w (a ++ p.0))) one
            (subst (λ (t : List (Entry C R)). Interleaves (of_held v (a ++ p.0)) t (of_held w (a ++ p.0))) two
            (filter_interleaves (λ n. is_held v n) (λ n. is_held other n) (λ n. is_held w n) (a ++ p.0) each)),
      )
    where
      each : (n : ℕ) → ((is_held w n ≡ true) × (is_held v n ≡ true) × (is_held other n ≡ false)) ⊎ (((is_held w n ≡ true) × (is_held v n ≡ false) × (is_held other n ≡ true)) ⊎ ((is_held w n ≡ false) × (is_held v n ≡ false) × (is_held other n ≡ false)))
      each n = go (times n v.held) (times n other.held) refl refl
        where
          sum : times n w.held ≡ times n v.held + times n other.held
          sum = ap (λ (l : List ℕ). times n l) j.now_held ∙ times-append n v.held other.held

          go : (i k : ℕ) → times n v.held ≡ i → times n other.held ≡ k
              → ((is_held w n ≡ true) × (is_held v n ≡ true) × (is_held other n ≡ false)) ⊎ (((is_held w n ≡ true) × (is_held v n ≡ false) × (is_held other n ≡ true)) ⊎ ((is_held w n ≡ false) × (is_held v n ≡ false) × (is_held other n ≡ false)))
          go zero zero is it = inr (inr (test_zero (times n w.held) (omega (arith, sum, is, it)), test_zero (times n v.held) is, test_zero (times n other.held) it))
          go zero (suc k) is it = inr (inl (test_positive (times n w.held) (omega (arith, sum, is, it)), test_zero (times n v.held) is, test_positive (times n other.held) (omega (arith, it))))
          go (suc i) zero is it = inl (test_positive (times n w.held) (omega (arith, sum, is, it)), test_positive (times n v.held) (omega (arith, is)), test_zero (times n other.held) it)
          go (suc i) (suc k) is it = let d = j.still_distinct n in absurd (omega (arith, sum, is, it, d))

  pub all_are_ours : AllAreOurs m
  all_are_ours opening v all legal = filter_all (λ n. is_held v n) v.seen (λ before after x cut.
      let follows = legal before after x cut in
      test_positive (times x.caller v.held) (⊎_elim
      (λ (z : x.caller ≡ 0). subst (λ (k : ℕ). Holds v k) (sym z) all.0)
      (λ (ne : x.caller ≢ 0). let made = may_made m x.caller before x.call ne follows.role in
      all.1 x.caller made.0 (subst (λ (l : List (Entry C R)). maker m x.caller l ≡ Some made.0) cut (maker_more m x.caller before (x ∷ after) made.0 made.1)))
      (dec_eq x.caller 0)))

  -- a number that was made was answered to some entry
  maker_some : (n : ℕ) (h : List (Entry C R)) (made : C) → maker m n h ≡ Some made → (b a : List (Entry C R)) × (y : Entry C R) × (b ++ y ∷ a ≡ h) × (m.number y.reply ≡ Some n)
  maker_some n [] made is = absurd cc
  maker_some n (y ∷ h) made is = go (answers m n y.reply) refl (maker_some n h made) is
    where
      go : (t : Bool) → answers m n y.reply ≡ t → (maker m n h ≡ Some made → (b a : List (Entry C R)) × (z : Entry C R) × (b ++ z ∷ a ≡ h) × (m.number z.reply ≡ Some n))
          → option_map (λ (z : Entry C R). z.call) (cond t (Some y) (find (λ z. answers m n z.reply) h)) ≡ Some made
          → (b a : List (Entry C R)) × (z : Entry C R) × (b ++ z ∷ a ≡ y ∷ h) × (m.number z.reply ≡ Some n)
      go true it later found = ([], h, y, refl, some_answers m n y.reply it)
      go false it later found = let r = later found in (y ∷ r.0, r.1, r.2, ap (λ (t : List (Entry C R)). y ∷ t) r.3, r.4)

  module _ (opening : O) (v : View O C R) (own_all : HoldsItsOwn m v) (legal : IsLegal m opening v.seen) where
    -- an entry of a caller that is held stands among ours
    among_ours : (b a : List (Entry C R)) (y : Entry C R) → b ++ y ∷ a ≡ v.seen → Holds v y.caller → of_held v b ++ y ∷ of_held v a ≡ ours v
    among_ours b a y cut some_held =
        let f : Entry C R → Bool = λ x. is_held v x.caller in
        let one : of_held v (y ∷ a) ≡ y ∷ of_held v a = rw (test_positive (times y.caller v.held) some_held) refl in
        ap (λ (t : List (Entry C R)). of_held v b ++ t) (sym one) ∙ (sym (filter-append f b (y ∷ a)) ∙ ap (λ (t : List (Entry C R)). of_held v t) cut)

    -- whoever made a call is held, as whoever made its number is
    each_held : (k : ℕ) (before after : List (Entry C R)) (x : Entry C R) → length before < k → before ++ x ∷ after ≡ v.seen → Holds v x.caller
    each_held zero before after x lt cut = absurd (omega (arith, lt))
    each_held (suc k) before after x lt cut = ⊎_elim
        (λ (z : x.caller ≡ 0). subst (λ (j : ℕ). Holds v j) (sym z) own_all.0)
        (λ (ne : x.caller ≢ 0).
        let made = may_made m x.caller before x.call ne (legal before after x cut).role in
        let by = maker_some x.caller before made.0 made.1 in
        let l = ap (λ (t : List (Entry C R)). length t) by.3 in
        let l2 = length-append by.0 (by.2 ∷ by.1) in
        let here : by.0 ++ by.2 ∷ (by.1 ++ x ∷ after) ≡ v.seen = sym (append_assoc by.0 (by.2 ∷ by.1) (x ∷ after)) ∙ (ap (λ (t : List (Entry C R)). t ++ x ∷ after) by.3 ∙ cut) in
        let some_held = each_held k by.0 (by.1 ++ x ∷ after) by.2 (omega (arith, lt, l, l2)) here in
        own_all.1 (of_held v by.0) (of_held v (by.1 ++ x ∷ after)) by.2 (among_ours by.0 (by.1 ++ x ∷ after) by.2 here some_held) x.caller by.4)
        (dec_eq x.caller 0)

    its_own_all : HoldsAll m v
    its_own_all = (
      own_all.0,
      λ n made is.
          let by = maker_some n v.seen made is in
          let some_held = each_held (suc (length by.0)) by.0 by.1 by.2 (omega arith) by.3 in
          own_all.1 (of_held v by.0) (of_held v by.1) by.2 (among_ours by.0 by.1 by.2 by.3 some_held) n by.4,
    )

  pub its_own_are_all : ItsOwnAreAll m
  its_own_are_all opening v own_all legal = let all = its_own_all opening v own_all legal in (all, all_are_ours opening v all legal)
