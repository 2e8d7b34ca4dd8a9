-- The laws of a task's row as an object that is stepped by calls.
use Rattle.std.proofs.Common.{◌≡◌, List, ℕ, ◌+◌, ◌^◌, ◌≤◌, length, Some, refl, sym, ap, ◌∙◌, arith}
use Rattle.std.specs.Prelude.{◌==◌}
use Rattle.tk_core.specs.Lists.{any_of, any_since, capped, count_of, first_of, last_of, greatest_of, sum_of, sum_since}
use Rattle.tk_core.specs.declared.history.Entry.{Entry}
use Rattle.tk_core.specs.declared.reply.Reply.{Reply}
use Rattle.tk_core.specs.declared.reply.Reply.TheVariants.{Shown}
use Rattle.tk_core.specs.History.{accepted, calls_of}
use Rattle.tk_core.specs.Fold.{number_of, fold_of, answer_at, HasItsAnswers, Follows, row_after}
use Rattle.tk_core.specs.Legal.{IsLegal}
use Rattle.tk_core.specs.Meaning.{AreToldApart, BeginsAtOpening, NumbersAreNew, ReadsOnly}
use Rattle.tk_core.specs.Task.{row_of, task_kind}
use Rattle.tk_core.specs.TaskMeaning.{task_meaning}
use Rattle.tk_core.specs.declared.task.row.TaskRow.{TaskRow}
use Rattle.tk_core.specs.declared.task.call.TaskCall.{TaskCall}
use Rattle.tk_core.specs.declared.task.call.TaskCall.TheVariants.{PollStart, PollEnd, Close, CloneWaker, WakeVal, WakeRef, Release, Enlist, Read}
use Rattle.tk_core.specs.Laws.Folded.{after, steps_to, fold_of-calls}
use Rattle.tk_core.specs.Laws.LegalLaws.{has_its_answers}
use Rattle.tk_core.specs.Laws.Drawn as drawn
use Rattle.tk_core.specs.Laws.Handles.{draws_none, draws_next}
use Rattle.tk_core.specs.Laws.TaskSteps.{changed, Holds, grows, none, follows}
use Rattle.tk_core.specs.Laws.TaskReadBack.{read_from, read_back, is_held}

pub told_apart : AreToldApart task_meaning
told_apart a b long e = sym (read_back a (is_held a long)) ∙ ap read_from e ∙ read_back b (is_held b (ap length (sym e) ∙ long))

pub begins : BeginsAtOpening task_meaning
unfolding row_after fold_of accepted row_of any_of any_since count_of first_of last_of greatest_of sum_of sum_since
begins opening is_opening = sym is_opening

-- a reading is answered with the row, and leaves it
read_follows : (row : TaskRow) → Follows task_kind row Read (row, Shown row)
read_follows row = follows row Read _ (λ within. refl)

pub read_leaves : ReadsOnly task_meaning Read
read_leaves opening calls is_opening = let row = row_after task_kind opening calls in sym (steps_to task_kind row Read _ (read_follows row) opening calls refl).0

-- a call that answers a number draws the next one
draws : (row : TaskRow) (call : TaskCall) (n : ℕ) → number_of (answer_at task_kind row call) ≡ Some n → (n ≡ row.handles + 1) × ((after task_kind changed row call).handles ≡ capped (row.handles + 1))
draws row (PollStart m) n e = absurd (draws_none _ _ n e)
draws row (PollEnd m) n e = absurd (draws_none _ _ n e)
draws row (Close m) n e = absurd (draws_none _ _ n e)
draws row CloneWaker n e = draws_next (λ r. r.handles) row (changed row CloneWaker) n (row.handles == 2 ^ 62) e refl
draws row (WakeVal m from_self) n e = absurd cc
draws row (WakeRef m from_self) n e = absurd cc
draws row Release n e = absurd cc
draws row Enlist n e = draws_next (λ r. r.handles) row (changed row Enlist) n (row.handles == 2 ^ 62) e refl
draws row Read n e = absurd cc

-- no call gives a handle back
gives_none_back : (row : TaskRow) (call : TaskCall) → row.handles ≤ 2 ^ 62 → row.handles ≤ (changed row call).handles
gives_none_back row (PollStart m) within = omega arith
gives_none_back row (PollEnd m) within = omega arith
gives_none_back row (Close m) within = omega arith
gives_none_back row CloneWaker within = omega arith
gives_none_back row (WakeVal m from_self) within = omega arith
gives_none_back row (WakeRef m from_self) within = omega arith
gives_none_back row Release within = omega arith
gives_none_back row Enlist within = omega arith
gives_none_back row Read within = omega arith

drawing : drawn.Draws task_kind changed (λ row. row.handles)
drawing = record { next = draws; rises = gives_none_back }

pub numbers_are_new : NumbersAreNew task_meaning
numbers_are_new opening calls call n is_opening e =
    drawn.numbers_are_new task_kind changed opening (Holds opening) (grows opening) (none opening) (λ row. row.handles) drawing (λ cs holds. holds) calls call n e

-- a legal history has its answers, and the row after its calls is its fold
pub legal_answers : (opening : TaskRow) (h : List (Entry TaskCall (Reply TaskRow))) → IsLegal task_meaning opening h → HasItsAnswers task_kind opening h
legal_answers opening h legal = has_its_answers task_kind opening h (λ before later e cut. (legal before later e cut).reply)

pub legal_fold : (opening : TaskRow) (h : List (Entry TaskCall (Reply TaskRow))) → IsLegal task_meaning opening h → fold_of task_kind opening h ≡ row_after task_kind opening (calls_of h)
legal_fold opening h legal = fold_of-calls task_kind opening h (legal_answers opening h legal)
