-- Async operations, as items that their owner alone polls and closes.
use Rattle.std.proofs.Common.{◌≡◌, ◌≢◌, ℕ, ◌+◌, ◌^◌, Bool, true, false, if◌then◌else◌, List, Option, Some, None, Result, Ok, Err, IfErr, refl, ap, sym, ◌∙◌, true≢false}
use Rattle.std.specs.Prelude.{◌&&◌, not, nat_lt, nat_le, slice_get, ◌+ℤ◌, ◌-ℤ◌}
use Rattle.tk_ids.specs.declared.attr.AttrValue.{AttrValue}
use Rattle.tk_ids.specs.declared.attr.AttrValue.TheVariants as values
use Rattle.tk_core.specs.Attributes.{refused_by, is_i64}
use Rattle.tk_core.specs.declared.attrs.AttrOp.{AttrOp}
use Rattle.tk_core.specs.declared.attrs.AttrOp.TheVariants.{Add, Sub, Override}
use Rattle.tk_core.specs.declared.reply.Refusal.{Refusal}
use Rattle.tk_core.specs.declared.history.Entry.{Entry}
use Rattle.tk_core.specs.declared.reply.Refusal.TheVariants.{AlreadyPolling, NotPolling, Closed, OutOfRange}
use Rattle.tk_core.specs.declared.reply.Reply.{Reply}
use Rattle.tk_core.specs.declared.reply.Reply.TheVariants.{Done, Refused}
use Rattle.tk_core.specs.declared.op.row.OpRow.{OpRow}
use Rattle.tk_core.specs.declared.op.call.OpCall.{OpCall}
use Rattle.tk_core.specs.declared.op.call.OpCall.TheVariants.{PollStart, PollEnd, Close, SetTask, Attr, Enlist, Read}
use Rattle.tk_core.specs.Lists.{last_of}
use Rattle.tk_core.specs.Polls.{starts_or_ends, is_polling}
use Rattle.tk_core.specs.History.{accepted, calls_of}
use Rattle.tk_core.specs.Fold.{refused_or, is_accepted, fold_of, answer_at, row_after, reply_after}
use Rattle.tk_core.specs.Legal.{IsLegal}
use Rattle.tk_core.specs.Op.{start_at, end_at, close_at, row_of, op_kind, made_may, inspector_may, wants_idle, wants_polling}
use Rattle.tk_core.specs.OpMeaning.{op_meaning}
use Rattle.tk_core.specs.Laws.OpLaws.{legal_fold}
use Rattle.tk_cell.specs.declared.view.View.{View}
use Rattle.tk_cell.specs.Calls.{Calls}
use Rattle.tk_cell.specs.Roles.{IsOwner}
use Rattle.tk_ledgers.proofs.PollLemmas.{Polled, Keeps, at, reply_at, dropped_at}

-- which polls a call starts or ends
abbrev pub poll_of : OpCall → Option Bool
poll_of call = starts_or_ends start_at end_at call

-- a call that neither polls nor closes
abbrev pub IsQuiet : OpCall → Type 0
IsQuiet call = (poll_of call ≡ None) × (close_at call ≡ None)

inspector_quiet : (call : OpCall) → inspector_may call ≡ true → IsQuiet call
inspector_quiet (PollStart m) may = absurd cc
inspector_quiet (PollEnd m) may = absurd cc
inspector_quiet (Close m) may = absurd cc
inspector_quiet (SetTask id) may = absurd cc
inspector_quiet (Attr i change) may = absurd cc
inspector_quiet Enlist may = (refl, refl)
inspector_quiet Read may = (refl, refl)

pub made_quiet : (made call : OpCall) → made_may made call ≡ true → IsQuiet call
made_quiet (PollStart m) call may = absurd cc
made_quiet (PollEnd m) call may = absurd cc
made_quiet (Close m) call may = absurd cc
made_quiet (SetTask id) call may = absurd cc
made_quiet (Attr i change) call may = absurd cc
made_quiet Enlist call may = inspector_quiet call may
made_quiet Read call may = absurd cc

pub polling_is : (opening : OpRow) (h : List (Entry OpCall (Reply OpRow))) → (fold_of op_kind opening h).polling ≡ is_polling start_at end_at (accepted is_accepted h)
unfolding fold_of row_of
polling_is opening h = refl

pub dropped_is : (opening : OpRow) (h : List (Entry OpCall (Reply OpRow))) → (fold_of op_kind opening h).dropped ≡ last_of close_at (accepted is_accepted h)
unfolding fold_of row_of
dropped_is opening h = refl

pub replies : (opening : OpRow) (h : List (Entry OpCall (Reply OpRow))) (call : OpCall) → IsLegal op_meaning opening h → reply_after op_kind opening (calls_of h) call ≡ answer_at op_kind (fold_of op_kind opening h) call
unfolding reply_after row_after
replies opening h call legal = ap (λ (row : OpRow). answer_at op_kind row call) (sym (legal_fold opening h legal))

-- the answers of a row that isn't closed
pub start_answer : (row : OpRow) (at : ℕ) (b : Bool) → row.dropped ≡ None → row.polling ≡ b → answer_at op_kind row (PollStart at) ≡ (if b then Refused AlreadyPolling else Done)
start_answer row at true d p = rw (d, p) refl
start_answer row at false d p = rw (d, p) refl

pub end_answer : (row : OpRow) (at : ℕ) (b : Bool) → row.dropped ≡ None → row.polling ≡ b → answer_at op_kind row (PollEnd at) ≡ (if b then Done else Refused NotPolling)
end_answer row at true d p = rw (d, p) refl
end_answer row at false d p = rw (d, p) refl

pub close_answer : (row : OpRow) (at : ℕ) (b : Bool) → row.dropped ≡ None → row.polling ≡ b → answer_at op_kind row (Close at) ≡ (if b then Refused AlreadyPolling else Done)
close_answer row at true d p = rw (d, p) refl
close_answer row at false d p = rw (d, p) refl

-- what an async operation says of its polls and its close
abbrev pub op_polls : Polled op_meaning
op_polls = record {
  kind = op_kind;
  start = PollStart;
  end = PollEnd;
  close = Close;
  start_at = start_at;
  end_at = end_at;
  close_at = close_at;
  starts = λ at. (refl, refl);
  ends = λ at. (refl, refl);
  made_quiet = made_quiet;
  polling = λ row. row.polling;
  dropped = λ row. row.dropped;
  polling_is = polling_is;
  dropped_is = dropped_is;
  replies = replies;
  start_answer = start_answer;
  end_answer = end_answer;
  close_answer = close_answer;
}

-- why a start of a poll, its end, a close or a change of the task is refused, if it is
abbrev pub refusal_by : OpCall → Bool → Bool → Option Refusal
refusal_by call closed polling =
    if closed then Some Closed
    else if wants_idle call && polling then Some AlreadyPolling
    else if wants_polling call && not polling then Some NotPolling
    else None

-- a task that the owner sets is taken: it hasn't closed the operation
pub task_is_set : (v : View OpRow OpCall (Reply OpRow)) (id : ℕ) (reply : Reply OpRow) (w : View OpRow OpCall (Reply OpRow)) → Calls op_meaning v (SetTask id) reply w → IsOwner op_meaning v → (polling : Bool) → Keeps op_polls v polling → reply ≡ Done
task_is_set v id reply w k o polling keeps = reply_at op_polls v (SetTask id) reply w k o ∙ set_answer (at op_polls v (SetTask id) reply w k o) (dropped_at op_polls v (SetTask id) reply w k o ∙ keeps.1)
  where
    set_answer : (row : OpRow) → row.dropped ≡ None → answer_at op_kind row (SetTask id) ≡ Done
    set_answer row d = rw d refl

-- whether a reply says that the operation is closed
abbrev says_closed : Reply OpRow → Bool
says_closed (Refused Closed) = true
says_closed _ = false

-- a change that an attribute refuses is not refused for a close
fits : (b : Bool) → says_closed (refused_or (if b then None else Some OutOfRange) Done) ≡ false
fits true = refl
fits false = refl

by_attribute : (value : Option AttrValue) (change : AttrOp) → says_closed (refused_or (refused_by value change) Done) ≡ false
by_attribute None change = refl
by_attribute (Some (values.U64 n)) (Add (values.U64 by)) = fits (nat_lt (n + by) (2 ^ 64))
by_attribute (Some (values.U64 n)) (Add (values.Bool b)) = refl
by_attribute (Some (values.U64 n)) (Add (values.I64 z)) = refl
by_attribute (Some (values.U64 n)) (Sub (values.U64 by)) = fits (nat_le by n)
by_attribute (Some (values.U64 n)) (Sub (values.Bool b)) = refl
by_attribute (Some (values.U64 n)) (Sub (values.I64 z)) = refl
by_attribute (Some (values.U64 n)) (Override (values.U64 m)) = refl
by_attribute (Some (values.U64 n)) (Override (values.Bool b)) = refl
by_attribute (Some (values.U64 n)) (Override (values.I64 z)) = refl
by_attribute (Some (values.Bool b)) (Add value) = refl
by_attribute (Some (values.Bool b)) (Sub value) = refl
by_attribute (Some (values.Bool b)) (Override (values.U64 m)) = refl
by_attribute (Some (values.Bool b)) (Override (values.Bool c)) = refl
by_attribute (Some (values.Bool b)) (Override (values.I64 z)) = refl
by_attribute (Some (values.I64 z)) (Add (values.U64 by)) = refl
by_attribute (Some (values.I64 z)) (Add (values.Bool b)) = refl
by_attribute (Some (values.I64 z)) (Add (values.I64 by)) = fits (is_i64 (z +ℤ by))
by_attribute (Some (values.I64 z)) (Sub (values.U64 by)) = refl
by_attribute (Some (values.I64 z)) (Sub (values.Bool b)) = refl
by_attribute (Some (values.I64 z)) (Sub (values.I64 by)) = fits (is_i64 (z -ℤ by))
by_attribute (Some (values.I64 z)) (Override (values.U64 m)) = refl
by_attribute (Some (values.I64 z)) (Override (values.Bool b)) = refl
by_attribute (Some (values.I64 z)) (Override (values.I64 m)) = refl

-- the owner hasn't closed the operation, so no change of it is refused for that
pub change_finds_it_open : (v : View OpRow OpCall (Reply OpRow)) (i : ℕ) (change : AttrOp) (refusal : Refusal) (w : View OpRow OpCall (Reply OpRow)) → Calls op_meaning v (Attr i change) (Refused refusal) w → IsOwner op_meaning v → (polling : Bool) → Keeps op_polls v polling → refusal ≢ Closed
change_finds_it_open v i change refusal w k o polling keeps closed =
    let row = at op_polls v (Attr i change) (Refused refusal) w k o in
    let is : Refused refusal ≡ answer_at op_kind row (Attr i change) = reply_at op_polls v (Attr i change) (Refused refusal) w k o in
    let undropped : row.dropped ≡ None = dropped_at op_polls v (Attr i change) (Refused refusal) w k o ∙ keeps.1 in
    true≢false (sym (ap (λ (r : Refusal). says_closed (Refused r)) closed) ∙ ap says_closed is ∙ answered row undropped)
  where
    answered : (row : OpRow) → row.dropped ≡ None → says_closed (answer_at op_kind row (Attr i change)) ≡ false
    answered row d = rw d (by_attribute (slice_get row.attrs i) change)

pub changes_find_it_open : (v : View OpRow OpCall (Reply OpRow)) (i : ℕ) (change : AttrOp) (r : Result (Unit {0}) Refusal) (w : View OpRow OpCall (Reply OpRow)) → IfErr r (λ refusal. Calls op_meaning v (Attr i change) (Refused refusal) w) → IsOwner op_meaning v → (polling : Bool) → Keeps op_polls v polling → IfErr r (λ refusal. refusal ≢ Closed)
changes_find_it_open v i change (Ok u) w err o polling keeps = err
changes_find_it_open v i change (Err refusal) w err o polling keeps = change_finds_it_open v i change refusal w err o polling keeps
