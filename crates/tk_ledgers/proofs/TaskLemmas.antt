-- What the calls on a task are answered, wherever they are made.
use Rattle.std.proofs.Common.{◌≡◌, ℕ, ◌+◌, ◌^◌, Bool, true, false, Option, Some, None, List, refl, inl, inr}
use Rattle.std.specs.Prelude.{◌==◌, if◌then◌else◌}
use Rattle.tk_core.specs.declared.reply.Refusal.{Refusal}
use Rattle.tk_core.specs.declared.reply.Refusal.TheVariants.{HandlesSpent}
use Rattle.tk_core.specs.declared.reply.Reply.TheVariants.{Done, Number}
use Rattle.tk_core.specs.declared.task.row.TaskRow.{TaskRow}
use Rattle.tk_core.specs.declared.task.call.TaskCall.{TaskCall}
use Rattle.tk_core.specs.declared.task.call.TaskCall.TheVariants.{PollStart, PollEnd, Close, CloneWaker, WakeVal, WakeRef, Release, Enlist, Read}
use Rattle.tk_core.specs.Fold.{refused_or, fold_of, answer, number_of, reply_after}
use Rattle.tk_core.specs.History.{history_of}
use Rattle.tk_core.specs.Task.{task_kind, found_by_wake}
use Rattle.tk_core.specs.TaskMeaning.{task_meaning}
use Rattle.tk_ledgers.specs.Handles.{Gives, IsDrawing, IsAttempt, IsDone, IsReading, IsWake}

abbrev row_at : TaskRow → List TaskCall → TaskRow
row_at opening calls = fold_of task_kind opening (history_of (answer task_kind opening) calls)

pub read_reads : Gives task_meaning IsReading Read
unfolding reply_after
read_reads opening calls = (row_at opening calls, refl)

-- a reading answers no number
pub reads_silent : (opening : TaskRow) (calls : List TaskCall) (n : ℕ) → number_of (reply_after task_kind opening calls Read) ≡ Some n → ⊥
unfolding reply_after
reads_silent opening calls n is = cc

pub value_wakes : (m : ℕ) (from_self : Bool) → Gives task_meaning IsWake (WakeVal m from_self)
unfolding reply_after
value_wakes m from_self opening calls = (found_by_wake (row_at opening calls), refl)

pub reference_wakes : (m : ℕ) (from_self : Bool) → Gives task_meaning IsWake (WakeRef m from_self)
unfolding reply_after
reference_wakes m from_self opening calls = (found_by_wake (row_at opening calls), refl)

pub release_done : Gives task_meaning IsDone Release
unfolding reply_after
release_done opening calls = refl

drawing : (spent : Bool) (n : ℕ) → IsDrawing task_meaning (refused_or (if spent then Some HandlesSpent else None) (Number n))
drawing true n = inr refl
drawing false n = inl (n, refl, refl)

pub clone_draws : Gives task_meaning (IsDrawing task_meaning) CloneWaker
unfolding reply_after
clone_draws opening calls = let row = row_at opening calls in drawing (row.handles == 2 ^ 62) (row.handles + 1)

pub enlist_draws : Gives task_meaning (IsDrawing task_meaning) Enlist
unfolding reply_after
enlist_draws opening calls = let row = row_at opening calls in drawing (row.handles == 2 ^ 62) (row.handles + 1)

attempt : (o : Option Refusal) → IsAttempt {Row = TaskRow} (refused_or o Done)
attempt None = inl refl
attempt (Some r) = inr (r, refl)

pub start_attempts : (m : ℕ) → Gives task_meaning IsAttempt (PollStart m)
unfolding reply_after
start_attempts m opening calls = attempt _

pub end_attempts : (m : ℕ) → Gives task_meaning IsAttempt (PollEnd m)
unfolding reply_after
end_attempts m opening calls = attempt _

pub close_attempts : (m : ℕ) → Gives task_meaning IsAttempt (Close m)
unfolding reply_after
close_attempts m opening calls = attempt _
