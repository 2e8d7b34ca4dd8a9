-- What the calls on an operation are answered, wherever they are made.
use Rattle.std.proofs.Common.{◌≡◌, ℕ, ◌+◌, ◌^◌, Bool, true, false, Option, Some, None, List, refl, inl, inr}
use Rattle.std.specs.Prelude.{◌==◌, if◌then◌else◌}
use Rattle.tk_core.specs.declared.attrs.AttrOp.{AttrOp}
use Rattle.tk_core.specs.declared.reply.Refusal.{Refusal}
use Rattle.tk_core.specs.declared.reply.Refusal.TheVariants.{HandlesSpent}
use Rattle.tk_core.specs.declared.reply.Reply.TheVariants.{Done, Number}
use Rattle.tk_core.specs.declared.op.row.OpRow.{OpRow}
use Rattle.tk_core.specs.declared.op.call.OpCall.{OpCall}
use Rattle.tk_core.specs.declared.op.call.OpCall.TheVariants.{PollStart, PollEnd, Close, SetTask, Attr, Enlist, Read}
use Rattle.tk_core.specs.Fold.{refused_or, fold_of, answer, number_of, reply_after}
use Rattle.tk_core.specs.History.{history_of}
use Rattle.tk_core.specs.Op.{op_kind}
use Rattle.tk_core.specs.OpMeaning.{op_meaning}
use Rattle.tk_ledgers.specs.Handles.{Gives, IsDrawing, IsAttempt, IsReading}

abbrev row_at : OpRow → List OpCall → OpRow
row_at opening calls = fold_of op_kind opening (history_of (answer op_kind opening) calls)

-- a reading answers no number
pub reads_silent : (opening : OpRow) (calls : List OpCall) (n : ℕ) → number_of (reply_after op_kind opening calls Read) ≡ Some n → ⊥
unfolding reply_after
reads_silent opening calls n is = cc

pub read_reads : Gives op_meaning IsReading Read
unfolding reply_after
read_reads opening calls = (row_at opening calls, refl)

drawing : (spent : Bool) (n : ℕ) → IsDrawing op_meaning (refused_or (if spent then Some HandlesSpent else None) (Number n))
drawing true n = inr refl
drawing false n = inl (n, refl, refl)

pub enlist_draws : Gives op_meaning (IsDrawing op_meaning) Enlist
unfolding reply_after
enlist_draws opening calls = let row = row_at opening calls in drawing (row.handles == 2 ^ 62) (row.handles + 1)

attempt : (o : Option Refusal) → IsAttempt {Row = OpRow} (refused_or o Done)
attempt None = inl refl
attempt (Some r) = inr (r, refl)

pub start_attempts : (m : ℕ) → Gives op_meaning IsAttempt (PollStart m)
unfolding reply_after
start_attempts m opening calls = attempt _

pub end_attempts : (m : ℕ) → Gives op_meaning IsAttempt (PollEnd m)
unfolding reply_after
end_attempts m opening calls = attempt _

pub close_attempts : (m : ℕ) → Gives op_meaning IsAttempt (Close m)
unfolding reply_after
close_attempts m opening calls = attempt _

pub set_attempts : (id : ℕ) → Gives op_meaning IsAttempt (SetTask id)
unfolding reply_after
set_attempts id opening calls = attempt _

pub change_attempts : (i : ℕ) (change : AttrOp) → Gives op_meaning IsAttempt (Attr i change)
unfolding reply_after
change_attempts i change opening calls = attempt _
