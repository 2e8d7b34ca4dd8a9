-- What the handles of an async operation show.
use Rattle.std.specs.Prelude.{◌≡◌, ℕ, ◌≤◌, ◌&&◌, Bool, not, if◌then◌else◌, List, Option, Some, None, is_some}
use Rattle.tk_core.specs.declared.history.Entry.{Entry}
use Rattle.tk_core.specs.declared.reply.Refusal.{Refusal}
use Rattle.tk_core.specs.declared.reply.Refusal.TheVariants as refusals
use Rattle.tk_core.specs.declared.reply.Reply.{Reply}
use Rattle.tk_core.specs.declared.op.row.OpRow.{OpRow}
use Rattle.tk_core.specs.declared.op.call.OpCall.{OpCall}
use Rattle.tk_core.specs.Lists.{last_of}
use Rattle.tk_core.specs.History.{accepted}
use Rattle.tk_core.specs.Legal.{own}
use Rattle.tk_core.specs.Fold.{is_accepted}
use Rattle.tk_core.specs.Op.{start_at, end_at, close_at, draws_handle, wants_idle, wants_polling}
use Rattle.tk_core.specs.Polls as polls
use Rattle.tk_core.specs.OpMeaning.{op_meaning}
use Rattle.tk_cell.specs.declared.view.View.{View}
use Rattle.tk_cell.specs.Views.{Known}
use Rattle.tk_cell.specs.Ours.{ours}
use Rattle.tk_ledgers.specs.Callers.{CallsAs}
use Rattle.tk_ledgers.specs.Handles.{Sight}
use Rattle.tk_ledgers.specs.Sums.{sum_held}

-- what contracts see of an operation's handle
abbrev pub OpSight : Type 0
OpSight = Sight OpRow OpCall (Reply OpRow)

-- the owner's calls that were accepted, as far as a handle has seen
abbrev pub owner_calls : OpSight → List OpCall
owner_calls h = accepted is_accepted (own 0 h.token.view.seen)

-- a poll is open: of the owner's starts and ends of polls the last is a start
abbrev pub is_polling : OpSight → Bool
is_polling h = polls.is_polling start_at end_at (owner_calls h)

-- the owner has closed the operation
abbrev pub is_closed : OpSight → Bool
is_closed h = is_some (last_of close_at (owner_calls h))

-- why a start of a poll, its end, a close or a change of the task is refused, if it is: by what the owner called before
abbrev pub owner_refusal : OpSight → OpCall → Option Refusal
owner_refusal h call =
    if is_closed h then Some refusals.Closed
    else if wants_idle call && is_polling h then Some refusals.AlreadyPolling
    else if wants_polling call && not (is_polling h) then Some refusals.NotPolling
    else None

-- an owner keeps whether a poll is open, and hasn't closed the operation
abbrev pub Owns : OpSight → Bool → Type 0
Owns h polling = (is_polling h ≡ polling) × (last_of close_at (owner_calls h) ≡ None)

-- the counts of a row are the sums over the lists of the callers that a token holds
abbrev pub CountsAre : View OpRow OpCall (Reply OpRow) → OpRow → Type 0
CountsAre v row = (row.polls ≡ sum_held (polls.is_start start_at end_at) v) × (row.handles ≡ sum_held draws_handle v)

-- the counts of a row are at least those sums
abbrev pub CountsReach : View OpRow OpCall (Reply OpRow) → OpRow → Type 0
CountsReach v row = (sum_held (polls.is_start start_at end_at) v ≤ row.polls) × (sum_held draws_handle v ≤ row.handles)

-- a list of entries of an operation tells whether a poll is open, and whether the operation is closed
abbrev pub polling_in : List (Entry OpCall (Reply OpRow)) → Bool
polling_in h = polls.is_polling start_at end_at (accepted is_accepted h)

abbrev pub closed_in : List (Entry OpCall (Reply OpRow)) → Bool
closed_in h = is_some (last_of close_at (accepted is_accepted h))

-- what the owner called tells as much as all calls of the hand
abbrev pub OpsTellPolls : Type 0
OpsTellPolls = (old new : Known OpRow OpCall (Reply OpRow)) (n : ℕ) (call : OpCall) (reply : Reply OpRow) → CallsAs op_meaning old n call reply new
    → (polling_in (own 0 old.view.seen) ≡ polling_in (ours old.view)) × (closed_in (own 0 old.view.seen) ≡ closed_in (ours old.view))
