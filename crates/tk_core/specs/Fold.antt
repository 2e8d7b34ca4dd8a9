-- The fold of a history, and the answer to a further call: once, for every kind of object.
use Rattle.std.specs.Prelude.{◌≡◌, ℕ, Bool, true, false, List, Option, Some, None}
use Rattle.tk_core.specs.declared.history.Entry.{Entry}
use Rattle.tk_core.specs.declared.reply.Refusal.{Refusal}
use Rattle.tk_core.specs.declared.reply.Reply.{Reply}
use Rattle.tk_core.specs.declared.reply.Reply.TheVariants.{Done, Number, Woken, Shown, Refused}
use Rattle.tk_core.specs.History.{accepted, IsAnswered, with_call, history_of}

-- a reply that is no refusal accepts its call
abbrev pub is_accepted : {Row : Type 0} → Reply Row → Bool
is_accepted (Refused refusal) = false
is_accepted Done = true
is_accepted (Number n) = true
is_accepted (Woken found) = true
is_accepted (Shown row) = true

-- the number that a reply answers, if it answers one
abbrev pub number_of : {Row : Type 0} → Reply Row → Option ℕ
number_of (Number n) = Some n
number_of Done = None
number_of (Woken found) = None
number_of (Shown row) = None
number_of (Refused refusal) = None

-- the refusal that a reply is, if it is one
abbrev pub refusal_in : {Row : Type 0} → Reply Row → Option Refusal
refusal_in (Refused refusal) = Some refusal
refusal_in Done = None
refusal_in (Number n) = None
refusal_in (Woken found) = None
refusal_in (Shown row) = None

-- the refusal, where there is one, and otherwise the reply
abbrev pub refused_or : {Row : Type 0} → Option Refusal → Reply Row → Reply Row
refused_or (Some refusal) reply = Refused refusal
refused_or None reply = reply

-- what a kind of object is: the row that accepted calls leave, the first refusal of a call in a row, and the reply where there is none
pub record Kind (Row C : Type 0) : Type 0 where
  pub row_of : Row → List C → Row
  pub refusal_of : Row → C → Option Refusal
  pub reply_of : Row → C → Reply Row

module _ {Row C : Type 0} (kind : Kind Row C) where
  -- the row that a history leaves
  unfoldable pub fold_of : Row → List (Entry C (Reply Row)) → Row
  fold_of opening h = kind.row_of opening (accepted is_accepted h)

  -- the answer to a call in a row
  abbrev pub answer_at : Row → C → Reply Row
  answer_at row call = refused_or (kind.refusal_of row call) (kind.reply_of row call)

  -- the answer to a call after a history
  abbrev pub answer : Row → List (Entry C (Reply Row)) → C → Reply Row
  answer opening h call = answer_at (fold_of opening h) call

  -- each reply of the history is the answer to the entries before it
  abbrev pub HasItsAnswers : Row → List (Entry C (Reply Row)) → Type 0
  HasItsAnswers opening h = IsAnswered (answer opening) h

  -- whatever history a row is the fold of, the next row is the fold of that history with the call, and the reply is its answer
  abbrev pub Follows : Row → C → (Row × Reply Row) → Type 0
  Follows row call next =
      (opening : Row) (h : List (Entry C (Reply Row))) (caller : ℕ) → HasItsAnswers opening h → fold_of opening h ≡ row
      → next ≡ (fold_of opening (with_call (answer opening) h caller call), answer opening h call)

  -- the row after a list of calls
  unfoldable pub row_after : Row → List C → Row
  row_after opening calls = fold_of opening (history_of (answer opening) calls)

  -- the reply to a call after a list of calls
  unfoldable pub reply_after : Row → List C → C → Reply Row
  reply_after opening calls call = answer opening (history_of (answer opening) calls) call
