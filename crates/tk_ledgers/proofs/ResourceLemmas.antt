-- What the calls on a resource are answered, wherever they are made.
use Rattle.std.proofs.Common.{◌≡◌, ℕ, ◌+◌, ◌^◌, Bool, true, false, Option, Some, None, List, refl, inl, inr}
use Rattle.std.specs.Prelude.{◌==◌, if◌then◌else◌}
use Rattle.tk_core.specs.declared.attrs.AttrOp.{AttrOp}
use Rattle.tk_core.specs.declared.reply.Refusal.{Refusal}
use Rattle.tk_core.specs.declared.reply.Refusal.TheVariants.{HandlesSpent}
use Rattle.tk_core.specs.declared.reply.Reply.TheVariants.{Done, Number}
use Rattle.tk_core.specs.declared.resource.row.ResourceRow.{ResourceRow}
use Rattle.tk_core.specs.declared.resource.call.ResourceCall.{ResourceCall}
use Rattle.tk_core.specs.declared.resource.call.ResourceCall.TheVariants.{Close, Attr, Enlist, Read}
use Rattle.tk_core.specs.Fold.{refused_or, fold_of, answer, number_of, reply_after}
use Rattle.tk_core.specs.History.{history_of}
use Rattle.tk_core.specs.Resource.{resource_kind}
use Rattle.tk_core.specs.ResourceMeaning.{resource_meaning}
use Rattle.tk_ledgers.specs.Handles.{Gives, IsDrawing, IsAttempt, IsReading}

abbrev row_at : ResourceRow → List ResourceCall → ResourceRow
row_at opening calls = fold_of resource_kind opening (history_of (answer resource_kind opening) calls)

-- a reading answers no number
pub reads_silent : (opening : ResourceRow) (calls : List ResourceCall) (n : ℕ) → number_of (reply_after resource_kind opening calls Read) ≡ Some n → ⊥
unfolding reply_after
reads_silent opening calls n is = cc

pub read_reads : Gives resource_meaning IsReading Read
unfolding reply_after
read_reads opening calls = (row_at opening calls, refl)

drawing : (spent : Bool) (n : ℕ) → IsDrawing resource_meaning (refused_or (if spent then Some HandlesSpent else None) (Number n))
drawing true n = inr refl
drawing false n = inl (n, refl, refl)

pub enlist_draws : Gives resource_meaning (IsDrawing resource_meaning) Enlist
unfolding reply_after
enlist_draws opening calls = let row = row_at opening calls in drawing (row.handles == 2 ^ 62) (row.handles + 1)

attempt : (o : Option Refusal) → IsAttempt {Row = ResourceRow} (refused_or o Done)
attempt None = inl refl
attempt (Some r) = inr (r, refl)

pub close_attempts : (m : ℕ) → Gives resource_meaning IsAttempt (Close m)
unfolding reply_after
close_attempts m opening calls = attempt _

pub change_attempts : (i : ℕ) (change : AttrOp) → Gives resource_meaning IsAttempt (Attr i change)
unfolding reply_after
change_attempts i change opening calls = attempt _
