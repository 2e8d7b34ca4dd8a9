-- The row that a history leaves, after one more entry. For every kind of object.
use Rattle.std.proofs.Common.{◌≡◌, ℕ, true, false, Bool, cond, List, [], ◌∷◌, ◌++◌, refl, sym, ap, subst}
use Rattle.std.proofs.lemmas.List.{append-nil}
use Rattle.tk_core.specs.declared.history.Entry.{Entry}
use Rattle.tk_core.specs.declared.reply.Reply.{Reply}
use Rattle.tk_core.specs.History.{calls_of, accepted, with_call, history_of}
use Rattle.tk_core.specs.Fold.{Kind, is_accepted, fold_of, answer_at, answer, HasItsAnswers, Follows, row_after, reply_after}
use Rattle.tk_core.specs.Laws.Answered.{accepted_push, calls_of_push, kept, IsAnswered-history_of, history_of_push}

module _ {Row C : Type 0} (kind : Kind Row C) (changed : Row → C → Row) where
  -- a row after a call
  abbrev pub after : Row → C → Row
  after row call = cond (is_accepted (answer_at kind row call)) (changed row call) row

  -- an accepted call changes the row, and what holds of the calls goes on to hold
  abbrev pub Grows : (List C → Type 0) → Row → Type 0
  Grows Holds opening = (calls : List C) (call : C) → Holds calls → is_accepted (answer_at kind (kind.row_of opening calls) call) ≡ true
      → (kind.row_of opening (calls ++ call ∷ []) ≡ changed (kind.row_of opening calls) call) × Holds (calls ++ call ∷ [])

  module _ (opening : Row) (Holds : List C → Type 0) (grows : Grows Holds opening) (none : Holds []) where
    grown : (calls : List C) (call : C) (b : Bool) → Holds calls → (b ≡ true → is_accepted (answer_at kind (kind.row_of opening calls) call) ≡ true)
        → (kind.row_of opening (calls ++ cond b (call ∷ []) []) ≡ cond b (changed (kind.row_of opening calls) call) (kind.row_of opening calls)) × Holds (calls ++ cond b (call ∷ []) [])
    grown calls call true holds accepts = grows calls call holds (accepts refl)
    grown calls call false holds accepts = rw append-nil (refl, holds)

    -- the row after one more entry
    pub fold_of_push : (h : List (Entry C (Reply Row))) (caller : ℕ) (call : C) → Holds (accepted is_accepted h)
        → (fold_of kind opening (with_call (answer kind opening) h caller call) ≡ after (fold_of kind opening h) call) × Holds (accepted is_accepted (with_call (answer kind opening) h caller call))
    unfolding fold_of
    fold_of_push h caller call holds =
        let e : Entry C (Reply Row) = record { caller = caller; call = call; reply = answer kind opening h call } in
        let IsNext : List C → Type 0 = λ calls. (kind.row_of opening calls ≡ after (kind.row_of opening (accepted is_accepted h)) call) × Holds calls in
        subst IsNext (sym (accepted_push is_accepted h e)) (grown (accepted is_accepted h) call (is_accepted (answer kind opening h call)) holds (λ accepts. accepts))

    none_accepted : Holds (accepted {C = C} {R = Reply Row} is_accepted [])
    unfolding accepted
    none_accepted = none

    -- what holds of the accepted calls of every answered history
    pub always_holds : (h : List (Entry C (Reply Row))) → HasItsAnswers kind opening h → Holds (accepted is_accepted h)
    always_holds h answered = kept (answer kind opening) (λ g. Holds (accepted is_accepted g)) none_accepted (λ g caller call before holds. (fold_of_push g caller call holds).1) h answered

    -- a row that is changed as its answer says is the fold of the longer history
    pub follows_from : (row : Row) (call : C) (next : Row × Reply Row) (h : List (Entry C (Reply Row))) (caller : ℕ) → HasItsAnswers kind opening h → fold_of kind opening h ≡ row
        → (Holds (accepted is_accepted h) → next ≡ (after row call, answer_at kind row call)) → next ≡ (fold_of kind opening (with_call (answer kind opening) h caller call), answer kind opening h call)
    follows_from row call next h caller answered is_fold e =
        let holds = always_holds h answered in
        rw (e holds, ← is_fold, (fold_of_push h caller call holds).0) refl

module _ {Row C : Type 0} (kind : Kind Row C) where
  -- what follows a row is the row and the reply of one call more
  pub steps_to : (row : Row) (call : C) (next : Row × Reply Row) → Follows kind row call next → (opening : Row) (calls : List C) → row ≡ row_after kind opening calls
      → (next.0 ≡ row_after kind opening (calls ++ call ∷ [])) × (next.1 ≡ reply_after kind opening calls call)
  unfolding row_after reply_after
  steps_to row call next follows opening calls at =
      let made = follows opening (history_of (answer kind opening) calls) 0 (IsAnswered-history_of (answer kind opening) calls) (sym at) in
      rw (history_of_push (answer kind opening) calls call, made) (refl, refl)

  module _ (opening : Row) where
    -- replies and rows are those of the calls alone, whoever makes them
    pub by_calls : (h : List (Entry C (Reply Row))) → HasItsAnswers kind opening h → accepted is_accepted h ≡ accepted is_accepted (history_of (answer kind opening) (calls_of h))
    unfolding fold_of
    by_calls h answered = kept (answer kind opening) (λ g. accepted is_accepted g ≡ accepted is_accepted (history_of (answer kind opening) (calls_of g))) refl one h answered
      where
        one : (g : List (Entry C (Reply Row))) (caller : ℕ) (call : C) → HasItsAnswers kind opening g → accepted is_accepted g ≡ accepted is_accepted (history_of (answer kind opening) (calls_of g))
            → accepted is_accepted (with_call (answer kind opening) g caller call) ≡ accepted is_accepted (history_of (answer kind opening) (calls_of (with_call (answer kind opening) g caller call)))
        one g caller call before same =
            let made = history_of (answer kind opening) (calls_of g) in
            let reply : answer kind opening g call ≡ answer kind opening made call = ap (λ cs. answer_at kind (kind.row_of opening cs) call) same in
            rw (
              calls_of_push g (record { caller = caller; call = call; reply = answer kind opening g call }),
              history_of_push (answer kind opening) (calls_of g) call,
              accepted_push is_accepted g (record { caller = caller; call = call; reply = answer kind opening g call }),
              accepted_push is_accepted made (record { caller = 0; call = call; reply = answer kind opening made call }),
              reply,
              same,
            ) refl

    -- so the fold of a history is the row after its calls
    pub fold_of-calls : (h : List (Entry C (Reply Row))) → HasItsAnswers kind opening h → fold_of kind opening h ≡ row_after kind opening (calls_of h)
    unfolding fold_of row_after
    fold_of-calls h answered = ap (λ cs. kind.row_of opening cs) (by_calls h answered)
