-- A turn, from its two searches and its poll.
use Rattle.std.proofs.Common.{◌≡◌, ◌≢◌, ℕ, ◌+◌, ◌<◌, ◌≤◌, ◌⊎◌, true, false, List, length, Option, Some, None, refl, ap, sym, ◌∙◌, subst, inl, inr, arith, true≢false}
use Rattle.std.specs.Prelude.{is_some, IfSome}
use Rattle.std.specs.List.{slice_get}
use Rattle.std.proofs.lemmas.Bool.{cases_lt, cases_eq}
use Rattle.futures.specs.declared.task.Poll.{Poll}
use Rattle.tk_ledgers.specs.Tasks.{TaskSight}
use Rattle.tk_ledgers.specs.Scopes.{Scoped}
use Rattle.tk_exec.specs.Seats.{OwnerReads, Seat, Tasks, LookedAt, PolledAt, ChangesAt}
use Rattle.tk_exec.specs.Turns.{ComesBefore, PassedOver, Passed, Found, PollsAt, TurnIdles, TurnDoes}
use Rattle.tk_exec.specs.declared.executor.Turn.{Turn}
use Rattle.tk_exec.specs.declared.executor.Turn.TheVariants as turns

-- a task that shows scheduled has its owner
read_owner : (o n : Option TaskSight) → OwnerReads o true n → is_some n ≡ true
read_owner None n is = absurd (true≢false is.0)
read_owner (Some owner) n is = ap (λ (x : Option TaskSight). is_some x) is.2

pub some_same : {X : Type 0} (a b : X) → Some a ≡ Some b → a ≡ b
some_same a b e = cc

module _ {W A : Type 0} where
  carry : {o n o' n' : Option (Seat W A)} → PassedOver o n → o' ≡ o → n' ≡ n → PassedOver o' n'
  carry p e f = record { before = p.before; after = p.after; stood = e ∙ p.stood; stands = f ∙ p.stands; looked = p.looked }

  -- no place was passed over yet
  pub passed_none : (first : ℕ) (old : List (Seat W A)) → Passed first first old old
  passed_none first old = record { passed = λ i from to. absurd (omega arith); others = λ i out. refl; as_long = refl }

  -- one place more
  pub passed_more : (first place : ℕ) (old mid new : List (Seat W A)) → first ≤ place → Passed first place old mid → (change : ChangesAt place mid new) → LookedAt change.before false change.after → Passed first (place + 1) old new
  passed_more first place old mid new from p change looked = record {
    passed = λ i low high. at i low high (cases_eq i place);
    others = λ i out. outside i out;
    as_long = change.as_long ∙ p.as_long;
  }
    where
      at : (i : ℕ) → first ≤ i → i < place + 1 → (i ≡ place) ⊎ (i ≢ place) → PassedOver (slice_get old i) (slice_get new i)
      at i low high (inl is) = subst (λ (n : ℕ). PassedOver (slice_get old n) (slice_get new n)) (sym is)
          (record { before = change.before; after = change.after; stood = sym (p.others place (inr (omega arith))) ∙ change.stood; stands = change.stands; looked = looked })
      at i low high (inr isnt) = carry (p.passed i low (omega (arith, isnt))) refl (change.others i isnt)

      outside : (i : ℕ) → (i < first) ⊎ (place + 1 ≤ i) → slice_get new i ≡ slice_get old i
      outside i (inl low) = change.others i (λ is. absurd (omega (arith, is))) ∙ p.others i (inl low)
      outside i (inr high) = change.others i (λ is. absurd (omega (arith, is))) ∙ p.others i (inr (omega arith))

  -- a place that shows scheduled, before which in the order of the turn all were passed over
  pub record Shown (begin place : ℕ) (old mid : List (Seat W A)) : Type 0 where
    pub before : Seat W A
    pub read : Seat W A
    pub stood : slice_get old place ≡ Some before
    pub stands : slice_get mid place ≡ Some read
    pub looked : LookedAt before true read
    pub passed : (i : ℕ) → i < length old → ComesBefore begin i place → PassedOver (slice_get old i) (slice_get mid i)
    pub others : (i : ℕ) → ComesBefore begin place i → slice_get mid i ≡ slice_get old i
    pub as_long : length mid ≡ length old

  pub found_first : (begin last place : ℕ) (old mid : List (Seat W A)) → Found begin last place old mid → Shown begin place old mid
  found_first begin last place old mid f = record {
    before = f.change.before;
    read = f.change.after;
    stood = sym (f.passed.others place (inr (omega arith))) ∙ f.change.stood;
    stands = f.change.stands;
    looked = f.looked;
    passed = λ i less first. earlier i first;
    others = λ i later. later_same i later;
    as_long = f.change.as_long ∙ f.passed.as_long;
  }
    where
      low : begin ≤ place
      low = f.from

      earlier : (i : ℕ) → ComesBefore begin i place → PassedOver (slice_get old i) (slice_get mid i)
      earlier i (inl (from, inl beyond)) = absurd (omega (arith, low))
      earlier i (inl (from, inr first)) = carry (f.passed.passed i from first) refl (f.change.others i (λ is. absurd (omega (arith, is))))
      earlier i (inr (a, b, first)) = absurd (omega (arith, low))

      later_same : (i : ℕ) → ComesBefore begin place i → slice_get mid i ≡ slice_get old i
      later_same i (inl (from, inl beyond)) = f.change.others i (λ is. absurd (omega (arith, is, low))) ∙ f.passed.others i (inl beyond)
      later_same i (inl (from, inr later)) = f.change.others i (λ is. absurd (omega (arith, is))) ∙ f.passed.others i (inr (omega arith))
      later_same i (inr (a, b, later)) = absurd (omega (arith, low))

  pub found_second : (begin place : ℕ) (old half mid : List (Seat W A)) → Passed begin (length old) old half → Found 0 begin place half mid → Shown begin place old mid
  found_second begin place old half mid p f = record {
    before = f.change.before;
    read = f.change.after;
    stood = sym (p.others place (inl f.to)) ∙ (sym (f.passed.others place (inr (omega arith))) ∙ f.change.stood);
    stands = f.change.stands;
    looked = f.looked;
    passed = λ i less first. earlier i less first;
    others = λ i later. later_same i later;
    as_long = f.change.as_long ∙ (f.passed.as_long ∙ p.as_long);
  }
    where
      high : place < begin
      high = f.to

      earlier : (i : ℕ) → i < length old → ComesBefore begin i place → PassedOver (slice_get old i) (slice_get mid i)
      earlier i less (inl (from, inl beyond)) = carry (p.passed i from less) refl (f.change.others i (λ is. absurd (omega (arith, is, high))) ∙ f.passed.others i (inr (omega (arith, high))))
      earlier i less (inl (from, inr first)) = absurd (omega (arith, high))
      earlier i less (inr (a, b, first)) = carry (f.passed.passed i (omega arith) first) (sym (p.others i (inl a))) (f.change.others i (λ is. absurd (omega (arith, is))))

      later_same : (i : ℕ) → ComesBefore begin place i → slice_get mid i ≡ slice_get old i
      later_same i (inl (from, later)) = absurd (omega (arith, high))
      later_same i (inr (a, b, later)) = f.change.others i (λ is. absurd (omega (arith, is))) ∙ (f.passed.others i (inr (omega arith)) ∙ p.others i (inl b))

  module _ {C : Type 0} (reads : C → ℕ → C → Type 0) (polls : W → Scoped → Poll A → W → Scoped → Type 0) (gives : W → A → Type 0) (old mid new : Tasks W A) (clock clock' : C) where
    pub turn_polls : (place : ℕ) (answer : Turn) → Shown old.next place old.seats mid.seats → PollsAt reads polls gives place mid.seats answer new.seats clock clock' → new.next ≡ place + 1 → TurnDoes reads polls gives old answer new clock clock'
    turn_polls place turns.Idle s p next = absurd p
    turn_polls place (turns.Polled id ready) s p next =
        let change = p.change in
        let same : change.before ≡ s.read = some_same change.before s.read (sym change.stood ∙ s.stands) in
        record {
          place = place;
          before = s.before;
          read = s.read;
          after = change.after;
          stood = s.stood;
          stands = change.stands;
          named = p.named ∙ (ap (λ (seat : Seat W A). seat.task.id) same ∙ s.looked.0.id);
          looked = s.looked;
          polled = subst (λ (seat : Seat W A). PolledAt reads polls gives seat ready change.after clock clock') same p.polled;
          passed = λ i less first. carry (s.passed i less first) refl (change.others i (not_after i first));
          others = λ i later. change.others i (not_before i later) ∙ s.others i later;
          as_long = change.as_long ∙ s.as_long;
          next = next;
        }
      where
        not_after : (i : ℕ) → ComesBefore old.next i place → i ≢ place
        not_after i (inl (from, inl beyond)) is = absurd (omega (arith, is))
        not_after i (inl (from, inr first)) is = absurd (omega (arith, is))
        not_after i (inr (a, b, first)) is = absurd (omega (arith, is))

        not_before : (i : ℕ) → ComesBefore old.next place i → i ≢ place
        not_before i (inl (from, inl beyond)) is = absurd (omega (arith, is))
        not_before i (inl (from, inr later)) is = absurd (omega (arith, is))
        not_before i (inr (a, b, later)) is = absurd (omega (arith, is))

  pub turn_idles : {C : Type 0} (old mid new : Tasks W A) (clock clock' : C) → Passed old.next (length old.seats) old.seats mid.seats → Passed 0 old.next mid.seats new.seats → new.next ≡ old.next → clock' ≡ clock → TurnIdles old new clock clock'
  turn_idles old mid new clock clock' p q next unread = record { passed = λ i less. at i less (cases_lt i old.next); as_long = q.as_long ∙ p.as_long; next = next; unread = unread }
    where
      at : (i : ℕ) → i < length old.seats → (i < old.next) ⊎ (old.next ≤ i) → PassedOver (slice_get old.seats i) (slice_get new.seats i)
      at i less (inl low) = carry (q.passed i (omega arith) low) (sym (p.others i (inl low))) refl
      at i less (inr high) = carry (p.passed i high less) refl (q.others i (inr high))

  pub shown_owner : (begin place : ℕ) (old mid : List (Seat W A)) → Shown begin place old mid → IfSome (slice_get mid place) (λ seat. is_some seat.task.owner ≡ true)
  shown_owner begin place old mid s = subst (λ (o : Option (Seat W A)). IfSome o (λ seat. is_some seat.task.owner ≡ true)) (sym s.stands) (read_owner s.before.task.owner s.read.task.owner s.looked.0.owner)
