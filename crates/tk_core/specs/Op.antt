-- What a history of an async operation means: its row, which is tokio-console's async operation statistics, and the answer to a further call.
use Rattle.std.specs.Prelude.{◌≡◌, ℕ, ◌+◌, ◌^◌, ◌≤◌, length, Bool, true, false, not, ◌&&◌, ◌==◌, if◌then◌else◌, List, Option, Some, None, is_some, slice_get}
use Rattle.tk_ids.specs.declared.attr.AttrValue.{AttrValue}
use Rattle.tk_core.specs.Lists.{count_of, first_of, last_of, sum_of}
use Rattle.tk_core.specs.Polls.{is_start, is_polling, run_time}
use Rattle.tk_core.specs.Fold.{Kind}
use Rattle.tk_core.specs.Attributes.{values_from, refused_by}
use Rattle.tk_core.specs.declared.attrs.AttrOp.{AttrOp}
use Rattle.tk_core.specs.declared.reply.Refusal.{Refusal}
use Rattle.tk_core.specs.declared.reply.Refusal.TheVariants as refusals
use Rattle.tk_core.specs.declared.reply.Reply.{Reply}
use Rattle.tk_core.specs.declared.reply.Reply.TheVariants.{Done, Number, Shown}
use Rattle.tk_core.specs.declared.op.row.OpRow.{OpRow}
use Rattle.tk_core.specs.declared.op.call.OpCall.{OpCall}
use Rattle.tk_core.specs.declared.op.call.OpCall.TheVariants.{PollStart, PollEnd, Close, SetTask, Attr, Enlist, Read}

-- ---- what a call says

-- the moment of a start of a poll
abbrev pub start_at : OpCall → Option ℕ
start_at (PollStart m) = Some m
start_at _ = None

-- the moment of an end of a poll
abbrev pub end_at : OpCall → Option ℕ
end_at (PollEnd m) = Some m
end_at _ = None

-- the moment of a close
abbrev pub close_at : OpCall → Option ℕ
close_at (Close m) = Some m
close_at _ = None

-- the task that a call sets
abbrev pub task_set : OpCall → Option ℕ
task_set (SetTask id) = Some id
task_set _ = None

-- a call that draws a handle, which is an inspector's
abbrev pub draws_handle : OpCall → Bool
draws_handle Enlist = true
draws_handle _ = false

-- how a call changes the attribute of an index, if it does
abbrev pub change_of : ℕ → OpCall → Option AttrOp
change_of i (Attr j op) = if i == j then Some op else None
change_of i _ = None

-- ---- the row

-- the row that accepted calls leave
unfoldable pub row_of : OpRow → List OpCall → OpRow
row_of opening calls = record {
  created = opening.created;
  dropped = last_of close_at calls;
  polls = count_of (is_start start_at end_at) calls;
  first_poll = first_of start_at calls;
  last_started = last_of start_at calls;
  last_ended = last_of end_at calls;
  busy = sum_of (run_time start_at end_at) calls;
  handles = count_of draws_handle calls;
  task = last_of task_set calls;
  polling = is_polling start_at end_at calls;
  attrs = values_from change_of 0 opening.attrs calls;
}

-- the row before any call
abbrev pub opening_row : ℕ → List AttrValue → OpRow
opening_row created values = record { created = created; dropped = None; polls = 0; first_poll = None; last_started = None; last_ended = None; busy = 0; handles = 0; task = None; polling = false; attrs = values }

-- ---- the answer

-- calls that a closed operation refuses
abbrev pub wants_open : OpCall → Bool
wants_open Enlist = false
wants_open Read = false
wants_open _ = true

-- calls that an operation refuses while it is polled
abbrev pub wants_idle : OpCall → Bool
wants_idle (PollStart m) = true
wants_idle (Close m) = true
wants_idle _ = false

-- the call that an operation refuses while it is not polled
abbrev pub wants_polling : OpCall → Bool
wants_polling (PollEnd m) = true
wants_polling _ = false

-- why the attribute that a call changes refuses it
abbrev pub refused_attr : List AttrValue → OpCall → Option Refusal
refused_attr attrs (Attr i op) = refused_by (slice_get attrs i) op
refused_attr attrs _ = None

-- the first refusal that applies
abbrev pub refusal_of : OpRow → OpCall → Option Refusal
refusal_of row call =
    if wants_open call && is_some row.dropped then Some refusals.Closed
    else if wants_idle call && row.polling then Some refusals.AlreadyPolling
    else if wants_polling call && not row.polling then Some refusals.NotPolling
    else if draws_handle call && row.handles == 2 ^ 62 then Some refusals.HandlesSpent
    else refused_attr row.attrs call

-- the reply where nothing is refused
abbrev pub reply_of : OpRow → OpCall → Reply OpRow
reply_of row (PollStart m) = Done
reply_of row (PollEnd m) = Done
reply_of row (Close m) = Done
reply_of row (SetTask id) = Done
reply_of row (Attr i op) = Done
reply_of row Enlist = Number (row.handles + 1)
reply_of row Read = Shown row

-- what an async operation is
abbrev pub op_kind : Kind OpRow OpCall
op_kind = record { row_of = row_of; refusal_of = refusal_of; reply_of = reply_of }

-- ---- callers

-- an opening row is that of its creation and first values, at most six
abbrev pub IsOpening : OpRow → Type 0
IsOpening row = (row ≡ opening_row row.created row.attrs) × (length row.attrs ≤ 6)

-- the owner makes every call
abbrev pub owner_may : OpCall → Bool
owner_may call = true

-- an inspector enlists further inspectors and reads
abbrev pub inspector_may : OpCall → Bool
inspector_may Enlist = true
inspector_may Read = true
inspector_may _ = false

-- what the caller may do whose number a call drew
abbrev pub made_may : OpCall → OpCall → Bool
made_may Enlist call = inspector_may call
made_may _ call = false

-- no call of an operation is its caller's last
abbrev pub is_last : OpCall → Bool
is_last call = false
