-- The order in which two threads wake a task and release its wakers doesn't show in its row, where its waits are not counted: those of an idle task are counted from the wake that came first.
use Rattle.std.proofs.Common.{◌≡◌, ℕ, ◌+◌, max, Bool, true, false, cond, List, [], ◌∷◌, ◌++◌, None, refl, sym, ap, ◌∙◌, append_assoc, arith}
use Rattle.std.specs.Prelude.{map, filter, not, unwrap_or}
use Rattle.std.specs.List.{AllByRecursion}
use Rattle.std.proofs.lemmas.List.{append-nil}
use Rattle.tk_core.specs.Lists.{capped}
use Rattle.tk_core.specs.Fold.{answer_at, fold_of, row_after}
use Rattle.tk_core.specs.Task.{row_of, task_kind}
use Rattle.tk_core.specs.declared.task.row.TaskRow.{TaskRow}
use Rattle.tk_core.specs.declared.task.call.TaskCall.{TaskCall}
use Rattle.tk_core.specs.declared.task.call.TaskCall.TheVariants.{PollStart, PollEnd, Close, CloneWaker, WakeVal, WakeRef, Release, Enlist, Read}
use Rattle.tk_core.specs.Laws.Folded.{steps_to}
use Rattle.tk_core.specs.Laws.TaskSteps.{changed, follows}

-- a call that wakes the task or releases a waker of it
abbrev pub wakes_or_releases : TaskCall → Bool
wakes_or_releases (WakeVal m from_self) = true
wakes_or_releases (WakeRef m from_self) = true
wakes_or_releases Release = true
wakes_or_releases _ = false

-- what two threads did, in the order in which it came: each call with whether it is the first thread's
abbrev pub Made : Type 0
Made = List (Bool × TaskCall)

-- the calls of both
abbrev pub of_both : Made → List TaskCall
of_both made = map (λ p. p.1) made

-- the calls of the first, in its order
abbrev pub of_first : Made → List TaskCall
of_first made = map (λ p. p.1) (filter (λ p. p.0) made)

-- the calls of the second, in its order
abbrev pub of_second : Made → List TaskCall
of_second made = map (λ p. p.1) (filter (λ p. not p.0) made)

-- each call wakes or releases
abbrev pub WakeOrRelease : List TaskCall → Type 0
WakeOrRelease calls = AllByRecursion (λ call. wakes_or_releases call ≡ true) calls

-- a row after calls that are accepted
abbrev rest_of : TaskRow → List TaskCall → TaskRow
rest_of row [] = row
rest_of row (call ∷ calls) = rest_of (changed row call) calls

-- such a call is accepted wherever it comes
one : (opening : TaskRow) (before : List TaskCall) (call : TaskCall) → wakes_or_releases call ≡ true → changed (row_after task_kind opening before) call ≡ row_after task_kind opening (before ++ call ∷ [])
one opening before (WakeVal m from_self) is = let row = row_after task_kind opening before in (steps_to task_kind row (WakeVal m from_self) (changed row (WakeVal m from_self), answer_at task_kind row (WakeVal m from_self)) (follows row (WakeVal m from_self) _ (λ within. refl)) opening before refl).0
one opening before (WakeRef m from_self) is = let row = row_after task_kind opening before in (steps_to task_kind row (WakeRef m from_self) (changed row (WakeRef m from_self), answer_at task_kind row (WakeRef m from_self)) (follows row (WakeRef m from_self) _ (λ within. refl)) opening before refl).0
one opening before Release is = let row = row_after task_kind opening before in (steps_to task_kind row Release (changed row Release, answer_at task_kind row Release) (follows row Release _ (λ within. refl)) opening before refl).0
one opening before (PollStart m) is = absurd cc
one opening before (PollEnd m) is = absurd cc
one opening before (Close m) is = absurd cc
one opening before CloneWaker is = absurd cc
one opening before Enlist is = absurd cc
one opening before Read is = absurd cc

each : (opening : TaskRow) (before calls : List TaskCall) → WakeOrRelease calls → row_after task_kind opening (before ++ calls) ≡ rest_of (row_after task_kind opening before) calls
each opening before [] are = ap (λ cs. row_after task_kind opening cs) (append-nil before)
each opening before (call ∷ calls) are =
    ap (λ cs. row_after task_kind opening cs) (sym (append_assoc before (call ∷ []) calls))
    ∙ (each opening (before ++ call ∷ []) calls are.1 ∙ ap (λ row. rest_of row calls) (sym (one opening before call are.0)))

later_max : (n a b : ℕ) → max (max n a) b ≡ max (max n b) a
later_max n a b = omega arith

more : (a b : Bool) (n : ℕ) → cond b (capped (cond a (capped (n + 1)) n + 1)) (cond a (capped (n + 1)) n) ≡ cond a (capped (cond b (capped (n + 1)) n + 1)) (cond b (capped (n + 1)) n)
more true true n = refl
more true false n = refl
more false true n = refl
more false false n = refl

-- waits that are not counted stay so
uncounted : (row : TaskRow) (call : TaskCall) → row.waits ≡ None → wakes_or_releases call ≡ true → (changed row call).waits ≡ None
uncounted row (WakeVal m from_self) none is = rw none refl
uncounted row (WakeRef m from_self) none is = rw none refl
uncounted row Release none is = none
uncounted row (PollStart m) none is = absurd cc
uncounted row (PollEnd m) none is = absurd cc
uncounted row (Close m) none is = absurd cc
uncounted row CloneWaker none is = absurd cc
uncounted row Enlist none is = absurd cc
uncounted row Read none is = absurd cc

-- two such calls leave the same row in either order
swap : (row : TaskRow) (a b : TaskCall) → row.waits ≡ None → wakes_or_releases a ≡ true → wakes_or_releases b ≡ true → changed (changed row a) b ≡ changed (changed row b) a
swap row (WakeVal m f) (WakeVal n g) none is also = rw (none, later_max (unwrap_or row.last_wake 0) m n, more f g row.self_wakes) refl
swap row (WakeVal m f) (WakeRef n g) none is also = rw (none, later_max (unwrap_or row.last_wake 0) m n, more f g row.self_wakes) refl
swap row (WakeVal m f) Release none is also = refl
swap row (WakeRef m f) (WakeVal n g) none is also = rw (none, later_max (unwrap_or row.last_wake 0) m n, more f g row.self_wakes) refl
swap row (WakeRef m f) (WakeRef n g) none is also = rw (none, later_max (unwrap_or row.last_wake 0) m n, more f g row.self_wakes) refl
swap row (WakeRef m f) Release none is also = refl
swap row Release (WakeVal n g) none is also = refl
swap row Release (WakeRef n g) none is also = refl
swap row Release Release none is also = refl
swap row a (PollStart m) none is also = absurd cc
swap row a (PollEnd m) none is also = absurd cc
swap row a (Close m) none is also = absurd cc
swap row a CloneWaker none is also = absurd cc
swap row a Enlist none is also = absurd cc
swap row a Read none is also = absurd cc
swap row (PollStart m) b none is also = absurd cc
swap row (PollEnd m) b none is also = absurd cc
swap row (Close m) b none is also = absurd cc
swap row CloneWaker b none is also = absurd cc
swap row Enlist b none is also = absurd cc
swap row Read b none is also = absurd cc

-- a call that comes first may as well come after these
later : (row : TaskRow) (call : TaskCall) (xs ys : List TaskCall) → row.waits ≡ None → wakes_or_releases call ≡ true → WakeOrRelease xs → rest_of (changed row call) (xs ++ ys) ≡ rest_of row (xs ++ call ∷ ys)
later row call [] ys none is are = refl
later row call (x ∷ xs) ys none is are = ap (λ r. rest_of r (xs ++ ys)) (swap row call x none is are.0) ∙ later (changed row x) call xs ys (uncounted row x none are.0) is are.1

firsts : (made : Made) → WakeOrRelease (of_both made) → WakeOrRelease (of_first made)
firsts [] are = are
firsts ((true, call) ∷ made) are = (are.0, firsts made are.1)
firsts ((false, call) ∷ made) are = firsts made are.1

seconds : (made : Made) → WakeOrRelease (of_both made) → WakeOrRelease (of_second made)
seconds [] are = are
seconds ((true, call) ∷ made) are = seconds made are.1
seconds ((false, call) ∷ made) are = (are.0, seconds made are.1)

apart : (row : TaskRow) (made : Made) → row.waits ≡ None → WakeOrRelease (of_both made) → rest_of row (of_both made) ≡ rest_of row (of_first made ++ of_second made)
apart row [] none are = refl
apart row ((true, call) ∷ made) none are = apart (changed row call) made (uncounted row call none are.0) are.1
apart row ((false, call) ∷ made) none are = apart (changed row call) made (uncounted row call none are.0) are.1 ∙ later row call (of_first made) (of_second made) none are.0 (firsts made are.1)

both : (xs ys : List TaskCall) → WakeOrRelease xs → WakeOrRelease ys → WakeOrRelease (xs ++ ys)
both [] ys are also = also
both (x ∷ xs) ys are also = (are.0, both xs ys are.1 also)

none_counted : (opening : TaskRow) (before : List TaskCall) → opening.waits ≡ None → (row_after task_kind opening before).waits ≡ None
unfolding row_after fold_of row_of
none_counted opening before none = rw none refl

-- the row is the same as if the first had made all of its calls before the second began
pub order_unseen : (opening : TaskRow) (before : List TaskCall) (made : Made) → opening.waits ≡ None → WakeOrRelease (of_both made)
    → row_after task_kind opening (before ++ of_both made) ≡ row_after task_kind opening (before ++ (of_first made ++ of_second made))
order_unseen opening before made none are =
    each opening before (of_both made) are
    ∙ (apart (row_after task_kind opening before) made (none_counted opening before none) are
    ∙ sym (each opening before (of_first made ++ of_second made) (both (of_first made) (of_second made) (firsts made are) (seconds made are))))
