-- What the calls on a histogram are answered, wherever they are made.
use Rattle.std.proofs.Common.{◌≡◌, ℕ, ◌+◌, ◌^◌, Bool, true, false, List, Some, None, refl, inl, inr}
use Rattle.std.specs.Prelude.{◌==◌, if◌then◌else◌}
use Rattle.tk_core.specs.declared.reply.Refusal.TheVariants.{HandlesSpent}
use Rattle.tk_core.specs.declared.reply.Reply.TheVariants.{Number}
use Rattle.tk_core.specs.declared.times.row.TimesRow.{TimesRow}
use Rattle.tk_core.specs.declared.times.call.TimesCall.{TimesCall}
use Rattle.tk_core.specs.declared.times.call.TimesCall.TheVariants.{Add, Enlist, Read}
use Rattle.tk_core.specs.Fold.{refused_or, fold_of, answer, reply_after}
use Rattle.tk_core.specs.History.{history_of}
use Rattle.tk_core.specs.Times.{times_kind}
use Rattle.tk_core.specs.TimesMeaning.{times_meaning}
use Rattle.tk_ledgers.specs.Handles.{Gives, IsDrawing, IsDone, IsReading}

abbrev row_at : TimesRow → List TimesCall → TimesRow
row_at opening calls = fold_of times_kind opening (history_of (answer times_kind opening) calls)

pub read_reads : Gives times_meaning IsReading Read
unfolding reply_after
read_reads opening calls = (row_at opening calls, refl)

pub add_done : (time : ℕ) → Gives times_meaning IsDone (Add time)
unfolding reply_after
add_done time opening calls = refl

drawing : (spent : Bool) (n : ℕ) → IsDrawing times_meaning (refused_or (if spent then Some HandlesSpent else None) (Number n))
drawing true n = inr refl
drawing false n = inl (n, refl, refl)

pub enlist_draws : Gives times_meaning (IsDrawing times_meaning) Enlist
unfolding reply_after
enlist_draws opening calls = let row = row_at opening calls in drawing (row.handles == 2 ^ 62) (row.handles + 1)
