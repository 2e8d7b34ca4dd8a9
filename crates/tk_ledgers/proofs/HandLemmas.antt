-- What calls of a hand are answered, and what they leave of its owner's polls.
use Rattle.std.proofs.Common.{◌≡◌, ◌≢◌, ℕ, Bool, true, false, cond, List, Option, Some, None, Result, Ok, Err, OnOk, IfErr, refl, ap, sym, ◌∙◌, subst, ⊎_elim}
use Rattle.std.specs.Prelude.{unwrap_or, is_some}
use Rattle.std.specs.Option.{option_or}
use Rattle.tk_core.specs.declared.history.Entry.{Entry}
use Rattle.tk_core.specs.declared.reply.Refusal.{Refusal}
use Rattle.tk_core.specs.declared.reply.Reply.{Reply}
use Rattle.tk_core.specs.declared.reply.Reply.TheVariants.{Done, Number, Refused}
use Rattle.tk_core.specs.Fold.{is_accepted, number_of, refused_or, answer_at}
use Rattle.tk_core.specs.History.{accepted}
use Rattle.tk_core.specs.Legal.{own, has_ended}
use Rattle.tk_core.specs.Lists.{last_of}
use Rattle.tk_core.specs.Meaning.{Meaning}
use Rattle.tk_core.specs.Polls.{starts_or_ends, is_polling}
use Rattle.tk_cell.specs.declared.view.View.{View}
use Rattle.tk_cell.specs.Views.{Known, as_caller}
use Rattle.tk_cell.specs.Calls.{Calls}
use Rattle.tk_cell.specs.Roles.{IsOwner}
use Rattle.tk_cell.proofs.ListLemmas.{dec_eq}
use Rattle.tk_ledgers.specs.Callers.{CallsAs}
use Rattle.tk_ledgers.specs.Handles.{Caller, Gives, IsAttempt, IsDone, IsWake}
use Rattle.tk_ledgers.specs.Hands.{IsHand, Draws}
use Rattle.tk_ledgers.proofs.PollLemmas.{Polled, at, reply_at, polling_at, dropped_at, polling_then}

-- ---- calls that answer no number

module _ {Row C : Type 0} (m : Meaning Row C (Reply Row)) (plain : m.number ≡ number_of) (role : Caller C) (call : C) where
  answers_none : (reply : Reply Row) → number_of reply ≡ None → (n : ℕ) → m.number reply ≡ Some n → ⊥
  answers_none reply none n is = let same : m.number reply ≡ number_of reply = ap (λ (f : Reply Row → Option ℕ). f reply) plain in cc

  pub attempt_draws_none : Gives m IsAttempt call → Draws m role call
  attempt_draws_none form opening calls n is = absurd (answers_none (m.reply_after opening calls call) (⊎_elim
      (λ (d : m.reply_after opening calls call ≡ Done). ap number_of d)
      (λ (r : (refusal : Refusal) × (m.reply_after opening calls call ≡ Refused refusal)). ap number_of r.1)
      (form opening calls)) n is)

  pub done_draws_none : Gives m IsDone call → Draws m role call
  done_draws_none form opening calls n is = absurd (answers_none (m.reply_after opening calls call) (ap number_of (form opening calls)) n is)

  pub wake_draws_none : Gives m IsWake call → Draws m role call
  wake_draws_none form opening calls n is = absurd (answers_none (m.reply_after opening calls call) (ap number_of (form opening calls).1) n is)

-- ---- refusals

module _ {Row : Type 0} where
  abbrev done : Reply Row
  done = Done

  abbrev not_done : Refusal → Reply Row
  not_done r = Refused r

  pub was_done : (o : Option Refusal) → done ≡ refused_or o Done → o ≡ None
  was_done None e = refl
  was_done (Some r) e = absurd cc

  pub was_refused : (o : Option Refusal) (r : Refusal) → not_done r ≡ refused_or o Done → o ≡ Some r
  was_refused None r e = absurd cc
  was_refused (Some s) r e = cc

-- ---- the owner's polls

module _ {Row C : Type 0} {m : Meaning Row C (Reply Row)} (p : Polled m) where
  abbrev poll_of : C → Option Bool
  poll_of call = starts_or_ends p.start_at p.end_at call

  abbrev owned : View Row C (Reply Row) → List C
  owned v = accepted is_accepted (own 0 v.seen)

  abbrev pub polling_in : View Row C (Reply Row) → Bool
  polling_in v = is_polling p.start_at p.end_at (owned v)

  abbrev pub closed_in : View Row C (Reply Row) → Bool
  closed_in v = is_some (last_of p.close_at (owned v))

  module _ (role : Caller C) (v : View Row C (Reply Row)) (hand : IsHand m role v) (n : ℕ) (call : C) (reply : Reply Row) (w : View Row C (Reply Row)) (k : Calls m (as_caller n v) call reply w) where
    owns : n ≡ 0 → IsOwner m (as_caller n v)
    owns is = record { caller = is; going = subst (λ (j : ℕ). has_ended m v.seen j ≡ false) (sym is) hand.owner_goes_on }

    -- a call that neither starts a poll nor ends one
    pub quiet_keeps : poll_of call ≡ None → polling_in w ≡ polling_in v
    quiet_keeps quiet = ⊎_elim
        (λ (is : n ≡ 0). polling_then p (as_caller n v) call reply w k (owns is) ∙ go (is_accepted reply) (poll_of call) (last_of poll_of (owned v)) quiet)
        (λ (ne : n ≢ 0). ap (λ (l : List (Entry C (Reply Row))). is_polling p.start_at p.end_at (accepted is_accepted l)) (k.others 0 hand.owner_held (λ s. ne (sym s))))
        (dec_eq n 0)
      where
        go : (b : Bool) (x y : Option Bool) → x ≡ None → unwrap_or (option_or (cond b x None) y) false ≡ unwrap_or y false
        go true x y is = rw is refl
        go false x y is = refl

    -- one that is refused
    pub refused_keeps : n ≡ 0 → is_accepted reply ≡ false → polling_in w ≡ polling_in v
    refused_keeps is refused = polling_then p (as_caller n v) call reply w k (owns is) ∙ ap (λ (b : Bool). unwrap_or (option_or (cond b (poll_of call) None) (last_of poll_of (owned v))) false) refused

    -- one that starts a poll or ends one
    pub polls : n ≡ 0 → (b : Bool) → poll_of call ≡ Some b → is_accepted reply ≡ true → polling_in w ≡ b
    polls is b polled accepts = polling_then p (as_caller n v) call reply w k (owns is)
        ∙ (ap (λ (t : Bool). unwrap_or (option_or (cond t (poll_of call) None) (last_of poll_of (owned v))) false) accepts
        ∙ ap (λ (x : Option Bool). unwrap_or (option_or x (last_of poll_of (owned v))) false) polled)

    -- the owner's own calls tell what a call is answered that is refused by these alone
    pub answered : n ≡ 0 → (by : Bool → Bool → Option Refusal) → ((row : Row) → answer_at p.kind row call ≡ refused_or (by (is_some (p.dropped row)) (p.polling row)) Done)
        → reply ≡ refused_or (by (closed_in v) (polling_in v)) Done
    answered is by answers =
        let o = owns is in
        let row = at p (as_caller n v) call reply w k o in
        reply_at p (as_caller n v) call reply w k o
        ∙ (answers row
        ∙ (ap (λ (d : Option ℕ). refused_or (by (is_some d) (p.polling row)) Done) (dropped_at p (as_caller n v) call reply w k o)
        ∙ ap (λ (b : Bool). refused_or (by (closed_in v) b) Done) (polling_at p (as_caller n v) call reply w k o)))

  -- an attempt that neither starts a poll nor ends one
  pub attempt_keeps : (role : Caller C) (old new : Known Row C (Reply Row)) → IsHand m role old.view → (n : ℕ) (call : C) (result : Result (Unit {0}) Refusal)
      → OnOk result (CallsAs m old n call Done new) → IfErr result (λ r. CallsAs m old n call (Refused r) new) → poll_of call ≡ None → polling_in new.view ≡ polling_in old.view
  attempt_keeps role old new hand n call (Ok x) ok err quiet = quiet_keeps role old.view hand n call Done new.view ok.made quiet
  attempt_keeps role old new hand n call (Err r) ok err quiet = quiet_keeps role old.view hand n call (Refused r) new.view err.made quiet

  -- and one by which a handle may be drawn
  pub draw_keeps : (role : Caller C) (old new : Known Row C (Reply Row)) → IsHand m role old.view → (n : ℕ) (call : C) (result : Result ℕ Refusal) (spent : Refusal)
      → Rattle.std.specs.Prelude.IfOk result (λ k. CallsAs m old n call (Number k) new) → IfErr result (λ r. (r ≡ spent) × CallsAs m old n call (Refused spent) new) → poll_of call ≡ None → polling_in new.view ≡ polling_in old.view
  draw_keeps role old new hand n call (Ok k) spent ok err quiet = quiet_keeps role old.view hand n call (Number k) new.view ok.made quiet
  draw_keeps role old new hand n call (Err r) spent ok err quiet = quiet_keeps role old.view hand n call (Refused spent) new.view err.1.made quiet

  -- an attempt of the owner that is refused by its own calls alone
  module _ (role : Caller C) (old new : Known Row C (Reply Row)) (hand : IsHand m role old.view) (call : C) (by : Bool → Bool → Option Refusal)
      (answers : (row : Row) → answer_at p.kind row call ≡ refused_or (by (is_some (p.dropped row)) (p.polling row)) Done) where
    pub attempt_done : (result : Result (Unit {0}) Refusal) → OnOk result (CallsAs m old 0 call Done new)
        → OnOk result ((by (closed_in old.view) (polling_in old.view) ≡ None) × CallsAs m old 0 call Done new)
    attempt_done (Ok x) ok = (was_done (by (closed_in old.view) (polling_in old.view)) (answered role old.view hand 0 call Done new.view ok.made refl by answers), ok)
    attempt_done (Err r) ok = ok

    pub attempt_refused : (result : Result (Unit {0}) Refusal) → IfErr result (λ r. CallsAs m old 0 call (Refused r) new)
        → IfErr result (λ r. (by (closed_in old.view) (polling_in old.view) ≡ Some r) × CallsAs m old 0 call (Refused r) new)
    attempt_refused (Ok x) err = err
    attempt_refused (Err r) err = (was_refused (by (closed_in old.view) (polling_in old.view)) r (answered role old.view hand 0 call (Refused r) new.view err.made refl by answers), err)
