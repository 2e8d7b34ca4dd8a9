-- The laws of a histogram's row as an object that is stepped by calls.
use Rattle.std.proofs.Common.{◌≡◌, List, ℕ, ◌+◌, ◌^◌, ◌≤◌, get_or, drop, Some, refl, sym, ap, arith}
use Rattle.std.specs.Prelude.{◌==◌}
use Rattle.tk_core.specs.Lists.{capped, count_of, greatest_of}
use Rattle.tk_core.specs.declared.history.Entry.{Entry}
use Rattle.tk_core.specs.declared.reply.Reply.{Reply}
use Rattle.tk_core.specs.declared.reply.Reply.TheVariants.{Shown}
use Rattle.tk_core.specs.History.{accepted, calls_of}
use Rattle.tk_core.specs.Fold.{number_of, fold_of, answer_at, HasItsAnswers, Follows, row_after}
use Rattle.tk_core.specs.Legal.{IsLegal}
use Rattle.tk_core.specs.Meaning.{AreToldApart, BeginsAtOpening, NumbersAreNew, ReadsOnly}
use Rattle.tk_core.specs.Times.{counts_from, row_of, times_kind}
use Rattle.tk_core.specs.TimesMeaning.{times_meaning}
use Rattle.tk_core.specs.declared.times.row.TimesRow.{TimesRow}
use Rattle.tk_core.specs.declared.times.call.TimesCall.{TimesCall}
use Rattle.tk_core.specs.declared.times.call.TimesCall.TheVariants.{Add, Enlist, Read}
use Rattle.tk_core.specs.Laws.Folded.{after, steps_to, fold_of-calls}
use Rattle.tk_core.specs.Laws.LegalLaws.{has_its_answers}
use Rattle.tk_core.specs.Laws.Drawn as drawn
use Rattle.tk_core.specs.Laws.Handles.{draws_next}
use Rattle.tk_core.specs.Laws.TimesSteps.{changed, Holds, grows, none, follows}

-- the row that sixteen words are those of
abbrev pub read_from : List ℕ → TimesRow
read_from w = record { handles = get_or w 0 0; longest = get_or w 1 0; counts = drop 2 w }

pub told_apart : AreToldApart times_meaning
told_apart a b long e = ap read_from e

pub begins : BeginsAtOpening times_meaning
unfolding row_after fold_of accepted row_of counts_from count_of greatest_of
begins opening is_opening = sym is_opening

-- a reading is answered with the row, and leaves it
read_follows : (row : TimesRow) → Follows times_kind row Read (row, Shown row)
read_follows row = follows row Read _ (λ within. refl)

pub read_leaves : ReadsOnly times_meaning Read
read_leaves opening calls is_opening = let row = row_after times_kind opening calls in sym (steps_to times_kind row Read _ (read_follows row) opening calls refl).0

-- a call that answers a number draws the next one
draws : (row : TimesRow) (call : TimesCall) (n : ℕ) → number_of (answer_at times_kind row call) ≡ Some n → (n ≡ row.handles + 1) × ((after times_kind changed row call).handles ≡ capped (row.handles + 1))
draws row (Add time) n e = absurd cc
draws row Enlist n e = draws_next (λ r. r.handles) row (changed row Enlist) n (row.handles == 2 ^ 62) e refl
draws row Read n e = absurd cc

-- no call gives a handle back
gives_none_back : (row : TimesRow) (call : TimesCall) → row.handles ≤ 2 ^ 62 → row.handles ≤ (changed row call).handles
gives_none_back row (Add time) within = omega arith
gives_none_back row Enlist within = omega arith
gives_none_back row Read within = omega arith

drawing : drawn.Draws times_kind changed (λ row. row.handles)
drawing = record { next = draws; rises = gives_none_back }

pub numbers_are_new : NumbersAreNew times_meaning
numbers_are_new opening calls call n is_opening e =
    drawn.numbers_are_new times_kind changed opening (Holds opening) (grows opening) (none opening) (λ row. row.handles) drawing (λ cs holds. holds) calls call n e

-- a legal history has its answers, and the row after its calls is its fold
pub legal_answers : (opening : TimesRow) (h : List (Entry TimesCall (Reply TimesRow))) → IsLegal times_meaning opening h → HasItsAnswers times_kind opening h
legal_answers opening h legal = has_its_answers times_kind opening h (λ before later e cut. (legal before later e cut).reply)

pub legal_fold : (opening : TimesRow) (h : List (Entry TimesCall (Reply TimesRow))) → IsLegal times_meaning opening h → fold_of times_kind opening h ≡ row_after times_kind opening (calls_of h)
legal_fold opening h legal = fold_of-calls times_kind opening h (legal_answers opening h legal)
