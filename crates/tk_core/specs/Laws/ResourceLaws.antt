-- The laws of a resource's row as an object that is stepped by calls.
use Rattle.std.proofs.Common.{◌≡◌, List, ℕ, ◌+◌, ◌^◌, ◌≤◌, length, Some, refl, sym, ap, ◌∙◌, arith}
use Rattle.std.specs.Prelude.{◌==◌}
use Rattle.tk_core.specs.Lists.{capped, count_of, last_of}
use Rattle.tk_core.specs.declared.history.Entry.{Entry}
use Rattle.tk_core.specs.declared.reply.Reply.{Reply}
use Rattle.tk_core.specs.declared.reply.Reply.TheVariants.{Shown}
use Rattle.tk_core.specs.History.{accepted, calls_of}
use Rattle.tk_core.specs.Fold.{number_of, fold_of, answer_at, HasItsAnswers, Follows, row_after}
use Rattle.tk_core.specs.Legal.{IsLegal}
use Rattle.tk_core.specs.Meaning.{AreToldApart, BeginsAtOpening, NumbersAreNew, ReadsOnly}
use Rattle.tk_core.specs.Resource.{change_of, row_of, resource_kind}
use Rattle.tk_core.specs.ResourceMeaning.{resource_meaning}
use Rattle.tk_core.specs.declared.resource.row.ResourceRow.{ResourceRow}
use Rattle.tk_core.specs.declared.resource.call.ResourceCall.{ResourceCall}
use Rattle.tk_core.specs.declared.resource.call.ResourceCall.TheVariants.{Close, Attr, Enlist, Read}
use Rattle.tk_core.specs.Laws.Folded.{after, steps_to, fold_of-calls}
use Rattle.tk_core.specs.Laws.LegalLaws.{has_its_answers}
use Rattle.tk_core.specs.Laws.Drawn as drawn
use Rattle.tk_core.specs.Laws.Handles.{draws_none, draws_next}
use Rattle.tk_core.specs.Laws.AttributeSteps.{values_from-nil}
use Rattle.tk_core.specs.Laws.ResourceSteps.{changed, Holds, grows, none, follows}
use Rattle.tk_core.specs.Laws.ResourceReadBack.{read_from, read_back, is_held}

pub told_apart : AreToldApart resource_meaning
told_apart a b long e = sym (read_back a (is_held a long)) ∙ ap read_from e ∙ read_back b (is_held b (ap length (sym e) ∙ long))

pub begins : BeginsAtOpening resource_meaning
unfolding row_after fold_of accepted row_of count_of last_of
begins opening is_opening = rw (values_from-nil change_of opening.attrs) (sym is_opening.0)

-- a reading is answered with the row, and leaves it
read_follows : (row : ResourceRow) → Follows resource_kind row Read (row, Shown row)
read_follows row = follows row Read _ (λ within. refl)

pub read_leaves : ReadsOnly resource_meaning Read
read_leaves opening calls is_opening = let row = row_after resource_kind opening calls in sym (steps_to resource_kind row Read _ (read_follows row) opening calls refl).0

-- a call that answers a number draws the next one
draws : (row : ResourceRow) (call : ResourceCall) (n : ℕ) → number_of (answer_at resource_kind row call) ≡ Some n → (n ≡ row.handles + 1) × ((after resource_kind changed row call).handles ≡ capped (row.handles + 1))
draws row (Close m) n e = absurd (draws_none _ _ n e)
draws row (Attr i op) n e = absurd (draws_none _ _ n e)
draws row Enlist n e = draws_next (λ r. r.handles) row (changed row Enlist) n (row.handles == 2 ^ 62) e refl
draws row Read n e = absurd cc

-- no call gives a handle back
gives_none_back : (row : ResourceRow) (call : ResourceCall) → row.handles ≤ 2 ^ 62 → row.handles ≤ (changed row call).handles
gives_none_back row (Close m) within = omega arith
gives_none_back row (Attr i op) within = omega arith
gives_none_back row Enlist within = omega arith
gives_none_back row Read within = omega arith

drawing : drawn.Draws resource_kind changed (λ row. row.handles)
drawing = record { next = draws; rises = gives_none_back }

pub numbers_are_new : NumbersAreNew resource_meaning
numbers_are_new opening calls call n is_opening e =
    drawn.numbers_are_new resource_kind changed opening (Holds opening) (grows opening) (none opening) (λ row. row.handles) drawing (λ cs holds. holds.within) calls call n e

-- a legal history has its answers, and the row after its calls is its fold
pub legal_answers : (opening : ResourceRow) (h : List (Entry ResourceCall (Reply ResourceRow))) → IsLegal resource_meaning opening h → HasItsAnswers resource_kind opening h
legal_answers opening h legal = has_its_answers resource_kind opening h (λ before later e cut. (legal before later e cut).reply)

pub legal_fold : (opening : ResourceRow) (h : List (Entry ResourceCall (Reply ResourceRow))) → IsLegal resource_meaning opening h → fold_of resource_kind opening h ≡ row_after resource_kind opening (calls_of h)
legal_fold opening h legal = fold_of-calls resource_kind opening h (legal_answers opening h legal)
