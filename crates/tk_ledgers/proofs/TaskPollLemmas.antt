-- Tasks, as items that their owner alone polls and closes.
use Rattle.std.proofs.Common.{◌≡◌, ℕ, Bool, true, false, if◌then◌else◌, List, Option, Some, None, refl, ap, sym}
use Rattle.std.specs.Prelude.{◌&&◌, not, is_some}
use Rattle.tk_core.specs.declared.history.Entry.{Entry}
use Rattle.tk_core.specs.declared.reply.Refusal.{Refusal}
use Rattle.tk_core.specs.declared.reply.Refusal.TheVariants.{AlreadyPolling, NotPolling, Closed}
use Rattle.tk_core.specs.declared.reply.Reply.{Reply}
use Rattle.tk_core.specs.declared.reply.Reply.TheVariants.{Done, Refused}
use Rattle.tk_core.specs.declared.task.row.TaskRow.{TaskRow}
use Rattle.tk_core.specs.declared.task.call.TaskCall.{TaskCall}
use Rattle.tk_core.specs.declared.task.call.TaskCall.TheVariants.{PollStart, PollEnd, Close, CloneWaker, WakeVal, WakeRef, Release, Enlist, Read}
use Rattle.tk_core.specs.Lists.{last_of}
use Rattle.tk_core.specs.Polls.{starts_or_ends, is_polling}
use Rattle.tk_core.specs.History.{accepted, calls_of}
use Rattle.tk_core.specs.Fold.{is_accepted, refused_or, fold_of, answer_at, row_after, reply_after}
use Rattle.tk_core.specs.Legal.{IsLegal}
use Rattle.tk_core.specs.Task.{start_at, end_at, close_at, row_of, task_kind, made_may, waker_may, inspector_may, wants_open, wants_idle, wants_polling}
use Rattle.tk_core.specs.TaskMeaning.{task_meaning}
use Rattle.tk_core.specs.Laws.TaskLaws.{legal_fold}
use Rattle.tk_ledgers.proofs.PollLemmas.{Polled}

-- which polls a call starts or ends
abbrev pub poll_of : TaskCall → Option Bool
poll_of call = starts_or_ends start_at end_at call

-- a call that neither polls nor closes
abbrev pub IsQuiet : TaskCall → Type 0
IsQuiet call = (poll_of call ≡ None) × (close_at call ≡ None)

waker_quiet : (call : TaskCall) → waker_may call ≡ true → IsQuiet call
waker_quiet (PollStart m) may = absurd cc
waker_quiet (PollEnd m) may = absurd cc
waker_quiet (Close m) may = absurd cc
waker_quiet CloneWaker may = (refl, refl)
waker_quiet (WakeVal m from_self) may = (refl, refl)
waker_quiet (WakeRef m from_self) may = (refl, refl)
waker_quiet Release may = (refl, refl)
waker_quiet Enlist may = absurd cc
waker_quiet Read may = absurd cc

inspector_quiet : (call : TaskCall) → inspector_may call ≡ true → IsQuiet call
inspector_quiet (PollStart m) may = absurd cc
inspector_quiet (PollEnd m) may = absurd cc
inspector_quiet (Close m) may = absurd cc
inspector_quiet CloneWaker may = absurd cc
inspector_quiet (WakeVal m from_self) may = absurd cc
inspector_quiet (WakeRef m from_self) may = absurd cc
inspector_quiet Release may = absurd cc
inspector_quiet Enlist may = (refl, refl)
inspector_quiet Read may = (refl, refl)

pub made_quiet : (made call : TaskCall) → made_may made call ≡ true → IsQuiet call
made_quiet (PollStart m) call may = absurd cc
made_quiet (PollEnd m) call may = absurd cc
made_quiet (Close m) call may = absurd cc
made_quiet CloneWaker call may = waker_quiet call may
made_quiet (WakeVal m from_self) call may = absurd cc
made_quiet (WakeRef m from_self) call may = absurd cc
made_quiet Release call may = absurd cc
made_quiet Enlist call may = inspector_quiet call may
made_quiet Read call may = absurd cc

pub polling_is : (opening : TaskRow) (h : List (Entry TaskCall (Reply TaskRow))) → (fold_of task_kind opening h).polling ≡ is_polling start_at end_at (accepted is_accepted h)
unfolding fold_of row_of
polling_is opening h = refl

pub dropped_is : (opening : TaskRow) (h : List (Entry TaskCall (Reply TaskRow))) → (fold_of task_kind opening h).dropped ≡ last_of close_at (accepted is_accepted h)
unfolding fold_of row_of
dropped_is opening h = refl

pub replies : (opening : TaskRow) (h : List (Entry TaskCall (Reply TaskRow))) (call : TaskCall) → IsLegal task_meaning opening h → reply_after task_kind opening (calls_of h) call ≡ answer_at task_kind (fold_of task_kind opening h) call
unfolding reply_after row_after
replies opening h call legal = ap (λ (row : TaskRow). answer_at task_kind row call) (sym (legal_fold opening h legal))

-- the answers of a row that isn't closed
pub start_answer : (row : TaskRow) (at : ℕ) (b : Bool) → row.dropped ≡ None → row.polling ≡ b → answer_at task_kind row (PollStart at) ≡ (if b then Refused AlreadyPolling else Done)
start_answer row at true d p = rw (d, p) refl
start_answer row at false d p = rw (d, p) refl

pub end_answer : (row : TaskRow) (at : ℕ) (b : Bool) → row.dropped ≡ None → row.polling ≡ b → answer_at task_kind row (PollEnd at) ≡ (if b then Done else Refused NotPolling)
end_answer row at true d p = rw (d, p) refl
end_answer row at false d p = rw (d, p) refl

pub close_answer : (row : TaskRow) (at : ℕ) (b : Bool) → row.dropped ≡ None → row.polling ≡ b → answer_at task_kind row (Close at) ≡ (if b then Refused AlreadyPolling else Done)
close_answer row at true d p = rw (d, p) refl
close_answer row at false d p = rw (d, p) refl

-- what a task says of its polls and its close
abbrev pub task_polls : Polled task_meaning
task_polls = record {
  kind = task_kind;
  start = PollStart;
  end = PollEnd;
  close = Close;
  start_at = start_at;
  end_at = end_at;
  close_at = close_at;
  starts = λ at. (refl, refl);
  ends = λ at. (refl, refl);
  made_quiet = made_quiet;
  polling = λ row. row.polling;
  dropped = λ row. row.dropped;
  polling_is = polling_is;
  dropped_is = dropped_is;
  replies = replies;
  start_answer = start_answer;
  end_answer = end_answer;
  close_answer = close_answer;
}

-- why a start of a poll, its end or a close is refused, if it is, and that they are answered so
abbrev pub refusal_by : TaskCall → Bool → Bool → Option Refusal
refusal_by call closed polling =
    if closed then Some Closed
    else if wants_idle call && polling then Some AlreadyPolling
    else if wants_polling call && not polling then Some NotPolling
    else None

pub poll_answer : (call : TaskCall) → wants_open call ≡ true → (row : TaskRow) → answer_at task_kind row call ≡ refused_or (refusal_by call (is_some row.dropped) row.polling) Done
poll_answer (PollStart at) may row = refl
poll_answer (PollEnd at) may row = refl
poll_answer (Close at) may row = refl
poll_answer CloneWaker may row = absurd cc
poll_answer (WakeVal at from_self) may row = absurd cc
poll_answer (WakeRef at from_self) may row = absurd cc
poll_answer Release may row = absurd cc
poll_answer Enlist may row = absurd cc
poll_answer Read may row = absurd cc
