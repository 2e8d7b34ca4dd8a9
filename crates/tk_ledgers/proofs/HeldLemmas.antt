-- A hand holds whom it made, or knows who does; and what is read beside it then.
use Rattle.std.proofs.Common.{◌≡◌, ◌≢◌, ℕ, zero, suc, ◌+◌, ◌<◌, ◌==◌, Bool, true, false, not, cond, filter, List, [], ◌∷◌, ◌++◌, Some, refl, ap, sym, ◌∙◌, subst, arith, inl, inr, ◌⊎◌, ⊎_elim}
use Rattle.std.proofs.lemmas.Bool.{eq-eqb, ne_eqb}
use Rattle.tk_core.specs.declared.history.Entry.{Entry}
use Rattle.tk_core.specs.declared.reply.Reply.{Reply}
use Rattle.tk_core.specs.declared.reply.Reply.TheVariants.{Shown}
use Rattle.tk_core.specs.Meaning.{Meaning}
use Rattle.tk_core.specs.History.{calls_of}
use Rattle.tk_core.specs.Legal.{own}
use Rattle.tk_cell.specs.declared.view.View.{View}
use Rattle.tk_cell.specs.Views.{times, list_of, without, Holds, Known, after_split, split_off, as_caller}
use Rattle.tk_cell.specs.Calls.{entry}
use Rattle.tk_cell.specs.Ours.{Interleaves, is_held, ours, CallsBeside, HoldTheirOwn}
use Rattle.tk_cell.proofs.ListLemmas.{dec_eq, snoc_cases, times-append, times_itself, times_other, without_other}
use Rattle.tk_cell.proofs.HistoryLemmas.{prefix_is_legal}
use Rattle.tk_cell.proofs.OursLemmas.{meeting_adds_nothing}
use Rattle.tk_cell.proofs.RoleLemmas.{drawn_held, longer_second}
use Rattle.tk_ledgers.specs.Beside.{AllRead, ShowsCallsOf, ShowsTheirCalls}
use Rattle.tk_ledgers.specs.Callers.{HoldsAllBut, CallsKeepAll, HandingOutKeepsAll, TakingBackKeepsAll, BesideKeepsAll}
use Rattle.tk_ledgers.proofs.CallersLemmas.{live_is, same_held, times_filter}

-- ---- places of a list

-- an element stands in a list
abbrev pub Stands : {A : Type 0} → A → List A → Type 0
Stands {A = A} x l = (before after : List A) × (before ++ x ∷ after ≡ l)

module _ {A : Type 0} where
  stands_later : (x y : A) (l : List A) → Stands x l → Stands x (y ∷ l)
  stands_later x y l s = (y ∷ s.0, s.1, ap (λ (t : List A). y ∷ t) s.2)

  -- what passes a test
  pub stands_filtered : (p : A → Bool) (l : List A) (x : A) → Stands x (filter p l) → Stands x l × (p x ≡ true)
  stands_filtered p l x s = go l s.0 s.1 s.2
    where
      go : (l before after : List A) → before ++ x ∷ after ≡ filter p l → Stands x l × (p x ≡ true)
      go [] [] after e = absurd cc
      go [] (b ∷ before) after e = absurd cc
      go (y ∷ l) before after e = step (p y) refl before e (go l)
        where
          step : (b : Bool) → p y ≡ b → (before : List A) → before ++ x ∷ after ≡ cond b (y ∷ filter p l) (filter p l)
              → ((before after : List A) → before ++ x ∷ after ≡ filter p l → Stands x l × (p x ≡ true)) → Stands x (y ∷ l) × (p x ≡ true)
          step true is [] e later = let same : x ≡ y = cc in (([], l, ap (λ (z : A). z ∷ l) same), ap p same ∙ is)
          step true is (b ∷ before) e later = let tails : before ++ x ∷ after ≡ filter p l = cc in let r = later before after tails in (stands_later x y l r.0, r.1)
          step false is before e later = let r = later before after e in (stands_later x y l r.0, r.1)

  pub filtered_stands : (p : A → Bool) (l : List A) (x : A) → Stands x l → p x ≡ true → Stands x (filter p l)
  filtered_stands p l x s is = go s.0 s.1 l s.2
    where
      go : (before after l : List A) → before ++ x ∷ after ≡ l → Stands x (filter p l)
      go before after l e = subst (λ (t : List A). Stands x (filter p t)) e (front before)
        where
          front : (before : List A) → Stands x (filter p (before ++ x ∷ after))
          front [] = rw is ([], filter p after, refl)
          front (b ∷ before) = step (p b) (front before)
            where
              step : (t : Bool) → Stands x (filter p (before ++ x ∷ after)) → Stands x (cond t (b ∷ filter p (before ++ x ∷ after)) (filter p (before ++ x ∷ after)))
              step true s = stands_later x b (filter p (before ++ x ∷ after)) s
              step false s = s

  -- an element of a list that two others are interleaved in stands in one of these
  pub stands_in_one : (xs ys h : List A) (x : A) → Interleaves xs ys h → Stands x h → Stands x xs ⊎ Stands x ys
  stands_in_one xs ys h x i s = go h xs ys s.0 i s.2
    where
      go : (h xs ys before : List A) → Interleaves xs ys h → before ++ x ∷ s.1 ≡ h → Stands x xs ⊎ Stands x ys
      go [] xs ys [] i e = absurd cc
      go [] xs ys (b ∷ before) i e = absurd cc
      go (z ∷ h) xs ys [] i e = let same : x ≡ z = cc in ⊎_elim
          (λ (t : (rest : List A) × (xs ≡ z ∷ rest) × Interleaves rest ys h). inl ([], t.0, ap (λ (y : A). y ∷ t.0) same ∙ sym t.1))
          (λ (t : (rest : List A) × (ys ≡ z ∷ rest) × Interleaves xs rest h). inr ([], t.0, ap (λ (y : A). y ∷ t.0) same ∙ sym t.1))
          i
      go (z ∷ h) xs ys (b ∷ before) i e = let tails : before ++ x ∷ s.1 ≡ h = cc in ⊎_elim
          (λ (t : (rest : List A) × (xs ≡ z ∷ rest) × Interleaves rest ys h). ⊎_elim
          (λ (a : Stands x t.0). inl (subst (λ (l : List A). Stands x l) (sym t.1) (stands_later x z t.0 a)))
          (λ (a : Stands x ys). inr a)
          (go h t.0 ys before t.2 tails))
          (λ (t : (rest : List A) × (ys ≡ z ∷ rest) × Interleaves xs rest h). ⊎_elim
          (λ (a : Stands x xs). inl a)
          (λ (a : Stands x t.0). inr (subst (λ (l : List A). Stands x l) (sym t.1) (stands_later x z t.0 a)))
          (go h xs t.0 before t.2 tails))
          i

held_test : (k : ℕ) → not (k == 0) ≡ true → 0 < k
held_test zero e = absurd cc
held_test (suc k) e = omega arith

pub test_held : (k : ℕ) → 0 < k → not (k == 0) ≡ true
test_held zero lt = absurd (omega (arith, lt))
test_held (suc k) lt = ap not (ne_eqb (suc k) 0 (λ (is : suc k ≡ 0). absurd (omega (arith, is))))

module _ {O C R : Type 0} (m : Meaning O C R) where
  -- an entry is a hand's where it was seen, and its caller is held
  of_hand : (v : View O C R) (e : Entry C R) → Stands e (ours v) → Stands e v.seen × Holds v e.caller
  of_hand v e s = let r = stands_filtered (λ (x : Entry C R). is_held v x.caller) v.seen e s in (r.0, held_test (times e.caller v.held) r.1)

  in_hand : (v : View O C R) (e : Entry C R) → Stands e v.seen → Holds v e.caller → Stands e (ours v)
  in_hand v e s there = filtered_stands (λ (x : Entry C R). is_held v x.caller) v.seen e s (test_held (times e.caller v.held) there)

  -- an entry of a caller of whom two histories have the same entries
  in_both : (n : ℕ) (a b : List (Entry C R)) (e : Entry C R) → own n a ≡ own n b → e.caller ≡ n → Stands e a → Stands e b
  in_both n a b e same is s =
      let mine : Stands e (own n a) = filtered_stands (λ (x : Entry C R). x.caller == n) a e s (eq-eqb e.caller n is) in
      (stands_filtered (λ (x : Entry C R). x.caller == n) b e (subst (λ (l : List (Entry C R)). Stands e l) same mine)).0

  pub calls_keep_all : CallsKeepAll m
  calls_keep_all old new n call reply others k all before after e cut j is = ⊎_elim
      (λ (t : (before ≡ ours old.view) × (e ≡ entry n call reply)).
      let drawn : m.number reply ≡ Some j = ap (λ (x : Entry C R). m.number x.reply) (sym t.1) ∙ is in
      inl (drawn_held m (as_caller n old.view) call reply new.view k.made j drawn))
      (λ (t : (rest : List (Entry C R)) × (before ++ e ∷ rest ≡ ours old.view)). ⊎_elim
      (λ (h : Holds old.view j).
      let all_held : times j new.view.held ≡ times j old.view.held + times j (list_of (m.number reply)) = ap (λ (l : List ℕ). times j l) k.made.now_held ∙ times-append j old.view.held (list_of (m.number reply)) in
      inl (omega (arith, all_held, h)))
      (λ (o : 0 < times j others). inr o)
      (all before t.0 e t.1 j is))
      (snoc_cases before after (ours old.view) e (entry n call reply) (cut ∙ k.calls))

  pub handing_out_keeps_all : HandingOutKeepsAll m
  handing_out_keeps_all old new made n others k all = (
    subst (λ (t : Known O C R). HoldsAllBut m (n ∷ others) t.view) (sym k.kept) left,
    subst (λ (t : Known O C R). HoldsAllBut m (old.view.held ++ others) t.view) (sym k.given) given,
  )
    where
      fewer : (j : ℕ) → 0 < times j (without n old.view.held) → Holds old.view j
      fewer j there = (times_filter (λ i. not (i == n)) j old.view.held there).1

      left : HoldsAllBut m (n ∷ others) (after_split n (as_caller 0 old.view))
      left before after e cut j is =
          let s = of_hand (after_split n (as_caller 0 old.view)) e (before, after, cut) in
          let mine = in_hand old.view e s.0 (fewer e.caller s.1) in ⊎_elim
          (λ (same : n ≡ j). inr (subst (λ (i : ℕ). 0 < times i (n ∷ others)) same (let one = times_itself n in let more = times-append n (n ∷ []) others in omega (arith, one, more))))
          (λ (apart : n ≢ j). ⊎_elim
          (λ (h : Holds old.view j). inl (let still = without_other n j old.view.held apart in omega (arith, still, h)))
          (λ (o : 0 < times j others). inr (omega (arith, o)))
          (all mine.0 mine.1 e mine.2 j is))
          (dec_eq n j)

      given : HoldsAllBut m (old.view.held ++ others) (split_off n old.view)
      given before after e cut j is =
          let s = of_hand (split_off n old.view) e (before, after, cut) in
          let there : Holds old.view n = (live_is m old.view n k.was_live).2 in
          let mine = in_hand old.view e s.0 (⊎_elim
          (λ (same : n ≡ e.caller). subst (λ (i : ℕ). Holds old.view i) same there)
          (λ (apart : n ≢ e.caller). let none = times_other n e.caller apart in let here = s.1 in absurd (omega (arith, none, here)))
          (dec_eq n e.caller)) in
          let both = times-append j old.view.held others in ⊎_elim
          (λ (h : Holds old.view j). inr (omega (arith, both, h)))
          (λ (o : 0 < times j others). inr (omega (arith, both, o)))
          (all mine.0 mine.1 e mine.2 j is)

  pub taking_back_keeps_all : TakingBackKeepsAll m
  taking_back_keeps_all old other new before others k one two rest b a e cut j is =
      let s = of_hand new.view e (b, a, cut) in
      let split : times e.caller new.view.held ≡ times e.caller old.view.held + times e.caller other.view.held = ap (λ (l : List ℕ). times e.caller l) k.joined.now_held ∙ times-append e.caller old.view.held other.view.held in
      let joined : times j new.view.held ≡ times j old.view.held + times j other.view.held = ap (λ (l : List ℕ). times j l) k.joined.now_held ∙ times-append j old.view.held other.view.held in
      which (times e.caller old.view.held) refl s split joined
    where
      which : (c : ℕ) → times e.caller old.view.held ≡ c → Stands e new.view.seen × Holds new.view e.caller → times e.caller new.view.held ≡ times e.caller old.view.held + times e.caller other.view.held
          → times j new.view.held ≡ times j old.view.held + times j other.view.held → Holds new.view j ⊎ (0 < times j others)
      which (suc c) is_c s split joined =
          let h : Holds old.view e.caller = omega (arith, is_c) in
          let mine = in_hand old.view e (in_both e.caller new.view.seen old.view.seen e (k.joined.first e.caller h) refl s.0) h in ⊎_elim
          (λ (t : Holds old.view j). inl (omega (arith, joined, t)))
          (λ (t : 0 < times j before). rest j t)
          (one mine.0 mine.1 e mine.2 j is)
      which zero is_c s split joined =
          let there = s.1 in
          let h : Holds other.view e.caller = omega (arith, is_c, split, there) in
          let mine = in_hand other.view e (in_both e.caller new.view.seen other.view.seen e (k.joined.second e.caller h) refl s.0) h in ⊎_elim
          (λ (t : Holds other.view j). inl (omega (arith, joined, t)))
          (λ (t : 0 < times j before). rest j t)
          (two mine.0 mine.1 e mine.2 j is)

  pub beside_keeps_all : BesideKeepsAll m
  beside_keeps_all v q w u call reply others k all before after e cut j is =
      let same : ours w ≡ ours v = (meeting_adds_nothing m k.v_met k.q_called w u k.again).0 ∙ (meeting_adds_nothing m v q k.v_met k.q_met k.before).0 in
      subst (λ (l : List ℕ). (0 < times j l) ⊎ (0 < times j others)) (sym (same_held m v q w u call reply k)) (all before after e (cut ∙ same) j is)

-- ---- what is read beside a hand

module _ {Row C : Type 0} (m : Meaning Row C (Reply Row)) (read : C) (silent : (opening : Row) (calls : List C) (n : ℕ) → m.number (m.reply_after opening calls read) ≡ Some n → ⊥) where
  module _ (v q w u : View Row C (Reply Row)) (reply : Reply Row) (k : CallsBeside m v q read reply w u) (owner : Holds v 0) (all : HoldsAllBut m q.held v) (reads : AllRead m read (ours q)) where
    hold_their_own : HoldTheirOwn m v q
    hold_their_own = (
      inl owner,
      λ h before after e i cut n is. ⊎_elim
          (λ (s : Stands e (ours v)). all s.0 s.1 e s.2 n is)
          (λ (s : Stands e (ours q)).
          let seen = (of_hand m q e s).0 in
          let legal = prefix_is_legal m k.before.opening q.seen k.v_met.seen (longer_second m v.seen q.seen k.v_met.seen k.before.longer) k.before.legal in
          let follows = legal seen.0 seen.1 e seen.2 in
          let call : e.call ≡ read = reads s.0 s.1 e s.2 in
          absurd (silent k.before.opening (calls_of seen.0) n (ap (λ (c : C). m.number (m.reply_after k.before.opening (calls_of seen.0) c)) (sym call) ∙ (ap m.number (sym follows.reply) ∙ is))))
          (stands_in_one (ours v) (ours q) h e i (before, after, cut)),
    )

  pub read_of_hand : ShowsTheirCalls m read → (v q w u : View Row C (Reply Row)) (row : Row) → CallsBeside m v q read (Shown row) w u → Holds v 0 → HoldsAllBut m q.held v → AllRead m read (ours q) → ShowsCallsOf m read v w u row
  read_of_hand shows v q w u row k owner all reads = shows v q w u row k (hold_their_own v q w u (Shown row) k owner all reads) reads
