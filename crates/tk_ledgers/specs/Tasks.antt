-- What the handles of a task show.
use Rattle.std.specs.Prelude.{◌≡◌, ℕ, ◌≤◌, ◌==◌, ◌&&◌, Bool, false, not, if◌then◌else◌, List, Option, Some, None, is_some}
use Rattle.tk_core.specs.declared.history.Entry.{Entry}
use Rattle.tk_core.specs.declared.reply.Refusal.{Refusal}
use Rattle.tk_core.specs.declared.reply.Refusal.TheVariants as refusals
use Rattle.tk_core.specs.declared.reply.Reply.{Reply}
use Rattle.tk_core.specs.declared.task.row.TaskRow.{TaskRow}
use Rattle.tk_core.specs.declared.task.call.TaskCall.{TaskCall}
use Rattle.tk_core.specs.Lists.{last_of}
use Rattle.tk_core.specs.History.{accepted}
use Rattle.tk_core.specs.Legal.{own}
use Rattle.tk_core.specs.Fold.{is_accepted}
use Rattle.tk_core.specs.Task.{start_at, end_at, close_at, is_wake, is_self_wake, is_clone, is_drop, draws_handle, wants_idle, wants_polling}
use Rattle.tk_core.specs.Polls as polls
use Rattle.tk_core.specs.TaskMeaning.{task_meaning}
use Rattle.tk_cell.specs.declared.view.View.{View}
use Rattle.tk_cell.specs.Views.{Known}
use Rattle.tk_cell.specs.Ours.{ours}
use Rattle.tk_ledgers.specs.Callers.{CallsAs}
use Rattle.tk_ledgers.specs.Handles.{Sight}
use Rattle.tk_ledgers.specs.Sums.{sum_held}

-- what contracts see of a task's handle
abbrev pub TaskSight : Type 0
TaskSight = Sight TaskRow TaskCall (Reply TaskRow)

-- entries of a task's ledger, the oldest first
abbrev pub TaskEntries : Type 0
TaskEntries = List (Entry TaskCall (Reply TaskRow))

-- the owner's calls that were accepted, as far as a handle has seen
abbrev pub owner_calls : TaskSight → List TaskCall
owner_calls h = accepted is_accepted (own 0 h.token.view.seen)

-- a poll is open: of the owner's starts and ends of polls the last is a start
abbrev pub is_polling : TaskSight → Bool
is_polling h = polls.is_polling start_at end_at (owner_calls h)

-- the owner has closed the task
abbrev pub is_closed : TaskSight → Bool
is_closed h = is_some (last_of close_at (owner_calls h))

-- why a start of a poll, its end or a close is refused, if it is: by what the owner called before
abbrev pub owner_refusal : TaskSight → TaskCall → Option Refusal
owner_refusal h call =
    if is_closed h then Some refusals.Closed
    else if wants_idle call && is_polling h then Some refusals.AlreadyPolling
    else if wants_polling call && not (is_polling h) then Some refusals.NotPolling
    else None

-- an owner keeps whether a poll is open, and hasn't closed the task
abbrev pub Owns : TaskSight → Bool → Type 0
Owns h polling = (is_polling h ≡ polling) × (last_of close_at (owner_calls h) ≡ None)

-- whether an origin names a task
abbrev pub names : Option ℕ → ℕ → Bool
names None id = false
names (Some task) id = task == id

-- the counts of a row are the sums over the lists of the callers that a token holds
abbrev pub CountsAre : View TaskRow TaskCall (Reply TaskRow) → TaskRow → Type 0
CountsAre v row = (row.polls ≡ sum_held (polls.is_start start_at end_at) v) × (row.wakes ≡ sum_held is_wake v) × (row.self_wakes ≡ sum_held is_self_wake v)
    × (row.clones ≡ sum_held is_clone v) × (row.drops ≡ sum_held is_drop v) × (row.handles ≡ sum_held draws_handle v)

-- the counts of a row are at least those sums
abbrev pub CountsReach : View TaskRow TaskCall (Reply TaskRow) → TaskRow → Type 0
CountsReach v row = (sum_held (polls.is_start start_at end_at) v ≤ row.polls) × (sum_held is_wake v ≤ row.wakes) × (sum_held is_self_wake v ≤ row.self_wakes)
    × (sum_held is_clone v ≤ row.clones) × (sum_held is_drop v ≤ row.drops) × (sum_held draws_handle v ≤ row.handles)

-- a list of entries of a task tells whether a poll is open, and whether the task is closed
abbrev pub polling_in : TaskEntries → Bool
polling_in h = polls.is_polling start_at end_at (accepted is_accepted h)

abbrev pub closed_in : TaskEntries → Bool
closed_in h = is_some (last_of close_at (accepted is_accepted h))

-- what the owner called tells as much as all calls of the hand
abbrev pub TasksTellPolls : Type 0
TasksTellPolls = (old new : Known TaskRow TaskCall (Reply TaskRow)) (n : ℕ) (call : TaskCall) (reply : Reply TaskRow) → CallsAs task_meaning old n call reply new
    → (polling_in (own 0 old.view.seen) ≡ polling_in (ours old.view)) × (closed_in (own 0 old.view.seen) ≡ closed_in (ours old.view))
