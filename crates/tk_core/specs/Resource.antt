-- What a history of a resource means: its row, which is tokio-console's resource statistics, and the answer to a further call.
use Rattle.std.specs.Prelude.{◌≡◌, ℕ, ◌+◌, ◌^◌, ◌≤◌, length, Bool, true, false, ◌&&◌, ◌==◌, if◌then◌else◌, List, Option, Some, None, is_some, slice_get}
use Rattle.tk_ids.specs.declared.attr.AttrValue.{AttrValue}
use Rattle.tk_core.specs.Lists.{count_of, last_of}
use Rattle.tk_core.specs.Fold.{Kind}
use Rattle.tk_core.specs.Attributes.{values_from, refused_by}
use Rattle.tk_core.specs.declared.attrs.AttrOp.{AttrOp}
use Rattle.tk_core.specs.declared.reply.Refusal.{Refusal}
use Rattle.tk_core.specs.declared.reply.Refusal.TheVariants as refusals
use Rattle.tk_core.specs.declared.reply.Reply.{Reply}
use Rattle.tk_core.specs.declared.reply.Reply.TheVariants.{Done, Number, Shown}
use Rattle.tk_core.specs.declared.resource.row.ResourceRow.{ResourceRow}
use Rattle.tk_core.specs.declared.resource.call.ResourceCall.{ResourceCall}
use Rattle.tk_core.specs.declared.resource.call.ResourceCall.TheVariants.{Close, Attr, Enlist, Read}

-- the moment of a close
abbrev pub close_at : ResourceCall → Option ℕ
close_at (Close m) = Some m
close_at _ = None

-- a call that draws a handle: a user's, or an inspector's
abbrev pub draws_handle : ResourceCall → Bool
draws_handle Enlist = true
draws_handle _ = false

-- how a call changes the attribute of an index, if it does
abbrev pub change_of : ℕ → ResourceCall → Option AttrOp
change_of i (Attr j op) = if i == j then Some op else None
change_of i _ = None

-- the row that accepted calls leave
unfoldable pub row_of : ResourceRow → List ResourceCall → ResourceRow
row_of opening calls = record {
  created = opening.created;
  dropped = last_of close_at calls;
  handles = count_of draws_handle calls;
  attrs = values_from change_of 0 opening.attrs calls;
}

-- the row before any call
abbrev pub opening_row : ℕ → List AttrValue → ResourceRow
opening_row created values = record { created = created; dropped = None; handles = 0; attrs = values }

-- calls that a closed resource refuses
abbrev pub wants_open : ResourceCall → Bool
wants_open (Close m) = true
wants_open (Attr i op) = true
wants_open _ = false

-- why the attribute that a call changes refuses it
abbrev pub refused_attr : List AttrValue → ResourceCall → Option Refusal
refused_attr attrs (Attr i op) = refused_by (slice_get attrs i) op
refused_attr attrs _ = None

-- the first refusal that applies
abbrev pub refusal_of : ResourceRow → ResourceCall → Option Refusal
refusal_of row call =
    if wants_open call && is_some row.dropped then Some refusals.Closed
    else if draws_handle call && row.handles == 2 ^ 62 then Some refusals.HandlesSpent
    else refused_attr row.attrs call

-- the reply where nothing is refused
abbrev pub reply_of : ResourceRow → ResourceCall → Reply ResourceRow
reply_of row (Close m) = Done
reply_of row (Attr i op) = Done
reply_of row Enlist = Number (row.handles + 1)
reply_of row Read = Shown row

-- what a resource is
abbrev pub resource_kind : Kind ResourceRow ResourceCall
resource_kind = record { row_of = row_of; refusal_of = refusal_of; reply_of = reply_of }

-- an opening row is that of its creation and first values, at most six
abbrev pub IsOpening : ResourceRow → Type 0
IsOpening row = (row ≡ opening_row row.created row.attrs) × (length row.attrs ≤ 6)

-- the owner makes every call
abbrev pub owner_may : ResourceCall → Bool
owner_may call = true

-- a user changes attributes, and enlists and reads as an inspector does
abbrev pub user_may : ResourceCall → Bool
user_may (Close m) = false
user_may _ = true

-- what the caller may do whose number a call drew
abbrev pub made_may : ResourceCall → ResourceCall → Bool
made_may Enlist call = user_may call
made_may _ call = false

-- no call of a resource is its caller's last
abbrev pub is_last : ResourceCall → Bool
is_last call = false
