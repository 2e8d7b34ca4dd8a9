-- What the handles of a resource show.
use Rattle.std.specs.Prelude.{◌≡◌, ℕ, ◌≤◌, Bool, List, None, is_some}
use Rattle.tk_core.specs.declared.history.Entry.{Entry}
use Rattle.tk_core.specs.declared.reply.Reply.{Reply}
use Rattle.tk_core.specs.declared.resource.row.ResourceRow.{ResourceRow}
use Rattle.tk_core.specs.declared.resource.call.ResourceCall.{ResourceCall}
use Rattle.tk_core.specs.Lists.{last_of}
use Rattle.tk_core.specs.History.{accepted}
use Rattle.tk_core.specs.Legal.{own}
use Rattle.tk_core.specs.Fold.{is_accepted}
use Rattle.tk_core.specs.Resource.{close_at, draws_handle}
use Rattle.tk_core.specs.ResourceMeaning.{resource_meaning}
use Rattle.tk_cell.specs.declared.view.View.{View}
use Rattle.tk_cell.specs.Views.{Known}
use Rattle.tk_cell.specs.Ours.{ours}
use Rattle.tk_ledgers.specs.Callers.{CallsAs}
use Rattle.tk_ledgers.specs.Handles.{Sight}
use Rattle.tk_ledgers.specs.Sums.{sum_held}

-- what contracts see of a resource's handle
abbrev pub ResourceSight : Type 0
ResourceSight = Sight ResourceRow ResourceCall (Reply ResourceRow)

-- the owner's calls that were accepted, as far as a handle has seen
abbrev pub owner_calls : ResourceSight → List ResourceCall
owner_calls h = accepted is_accepted (own 0 h.token.view.seen)

-- the owner has closed the resource
abbrev pub is_closed : ResourceSight → Bool
is_closed h = is_some (last_of close_at (owner_calls h))

-- an owner hasn't closed the resource
abbrev pub Owns : ResourceSight → Type 0
Owns h = last_of close_at (owner_calls h) ≡ None

-- the count of handles of a row is the sum over the lists of the callers that a token holds
abbrev pub CountsAre : View ResourceRow ResourceCall (Reply ResourceRow) → ResourceRow → Type 0
CountsAre v row = row.handles ≡ sum_held draws_handle v

-- the count of handles of a row is at least that sum
abbrev pub CountsReach : View ResourceRow ResourceCall (Reply ResourceRow) → ResourceRow → Type 0
CountsReach v row = sum_held draws_handle v ≤ row.handles

-- a list of entries of a resource tells whether it is closed
abbrev pub closed_in : List (Entry ResourceCall (Reply ResourceRow)) → Bool
closed_in h = is_some (last_of close_at (accepted is_accepted h))

-- what the owner called tells as much as all calls of the hand
abbrev pub ResourcesTellCloses : Type 0
ResourcesTellCloses = (old new : Known ResourceRow ResourceCall (Reply ResourceRow)) (n : ℕ) (call : ResourceCall) (reply : Reply ResourceRow) → CallsAs resource_meaning old n call reply new
    → closed_in (own 0 old.view.seen) ≡ closed_in (ours old.view)
