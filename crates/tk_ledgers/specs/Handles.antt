-- What a handle shows, as whom it makes calls, and how further handles are drawn.
use Rattle.std.specs.Prelude.{◌≡◌, ℕ, ◌⊎◌, Bool, List, [], ◌∷◌, Option, Some, None}
use Rattle.tk_core.specs.declared.reply.Refusal.{Refusal}
use Rattle.tk_core.specs.declared.reply.Refusal.TheVariants.{Memory, HandlesSpent}
use Rattle.tk_core.specs.declared.reply.Reply.{Reply}
use Rattle.tk_core.specs.declared.reply.Reply.TheVariants.{Done, Number, Woken, Shown, Refused}
use Rattle.tk_core.specs.declared.reply.WakeReply.{WakeReply}
use Rattle.tk_core.specs.declared.times.row.TimesRow.{TimesRow}
use Rattle.tk_core.specs.declared.times.call.TimesCall.{TimesCall}
use Rattle.tk_core.specs.Meaning.{Meaning}
use Rattle.tk_cell.specs.declared.view.View.{View}
use Rattle.tk_cell.specs.Views.{Known, known, after_split, split_off}
use Rattle.tk_cell.specs.Calls.{Calls}
use Rattle.tk_cell.specs.Roles.{IsOwner, IsMadeBy}

-- what is known of a histogram by a token
abbrev pub KnownTimes : Type 0
KnownTimes = Known TimesRow TimesCall (Reply TimesRow)

-- what contracts see of a handle, and of a receipt
pub record Sight (O C R : Type 0) : Type 0 where
  -- the id of its item
  pub id : ℕ
  -- the ledger that its token is of, and what is known by it
  pub token : Known O C R
  -- the same of the histogram of how long the item's polls ran, where it has one
  pub times : Option KnownTimes

-- a handle of this item, with this token and with or without a histogram
abbrev pub sight_with : {O C R : Type 0} → ℕ → Known O C R → Option KnownTimes → Sight O C R
sight_with id token times = record { id = id; token = token; times = times }

-- a handle of this item, with this token
abbrev pub sight : {O C R : Type 0} → ℕ → Known O C R → Sight O C R
sight id token = sight_with id token None

-- as whom a handle makes calls: as the owner, or as a caller whose number was answered to a given call
pub data Caller (C : Type 0) : Type 0 where
  owner : Caller C
  made_by : C → Caller C

module _ {O C R : Type 0} (m : Meaning O C R) where
  -- the calls of a role
  abbrev pub role_may : Caller C → C → Bool
  role_may owner call = m.owner_may call
  role_may (made_by made) call = m.made_may made call

  -- a token makes the calls of a role, and goes on
  abbrev pub HasRole : Caller C → View O C R → Type 0
  HasRole owner v = IsOwner m v
  HasRole (made_by made) v = IsMadeBy m made v

-- a call is done or refused
abbrev pub IsAttempt : {Row : Type 0} → Reply Row → Type 0
IsAttempt reply = (reply ≡ Done) ⊎ ((refusal : Refusal) × (reply ≡ Refused refusal))

-- a call is done
abbrev pub IsDone : {Row : Type 0} → Reply Row → Type 0
IsDone reply = reply ≡ Done

-- a call shows the row
abbrev pub IsReading : {Row : Type 0} → Reply Row → Type 0
IsReading {Row = Row} reply = (row : Row) × (reply ≡ Shown row)

-- a call wakes
abbrev pub IsWake : {Row : Type 0} → Reply Row → Type 0
IsWake reply = (found : WakeReply) × (reply ≡ Woken found)

module _ {Row C : Type 0} (m : Meaning Row C (Reply Row)) where
  -- a reply answers a number, or says that none is left
  abbrev pub IsDrawing : Reply Row → Type 0
  IsDrawing reply = ((n : ℕ) × (reply ≡ Number n) × (m.number reply ≡ Some n)) ⊎ (reply ≡ Refused HandlesSpent)

  -- the reply to the call has a form, wherever the call is made
  abbrev pub Gives : (Reply Row → Type 0) → C → Type 0
  Gives Form call = (opening : Row) (calls : List C) → Form (m.reply_after opening calls call)

  -- a number was drawn by the call, which is one entry, and its caller split off: it has seen as much, and holds itself alone
  pub record Drew (old : Known Row C (Reply Row)) (call : C) (new made : Known Row C (Reply Row)) : Type 0 where
    pub number : ℕ
    -- what is known after the call, before the split
    pub view : View Row C (Reply Row)
    pub entry : Calls m old.view call (Number number) view
    pub kept : new ≡ known old.ledger (after_split number view)
    pub given : made ≡ known old.ledger (split_off number view)

  -- no number was drawn: without memory nothing was done, and where no number is left the refused call is an entry
  abbrev pub NotDrawn : Known Row C (Reply Row) → C → Refusal → Known Row C (Reply Row) → Type 0
  NotDrawn old call Memory new = new ≡ old
  NotDrawn old call HandlesSpent new = (new.ledger ≡ old.ledger) × Calls m old.view call (Refused HandlesSpent) new.view
  NotDrawn old call _ new = ⊥

-- an owner that holds its own number alone does so after it drew a handle
abbrev pub DrawsAlone : {Row C : Type 0} → Meaning Row C (Reply Row) → Type 0
DrawsAlone {Row = Row} {C = C} m = (old new made : Known Row C (Reply Row)) (call : C) → Drew m old call new made → old.view.held ≡ 0 ∷ [] → new.view.held ≡ 0 ∷ []
