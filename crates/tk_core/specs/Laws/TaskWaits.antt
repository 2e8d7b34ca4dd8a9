-- What a task's count of its waits means: wakes that come while it waits don't shorten it, and it never falls.
use Rattle.std.proofs.Common.{◌≡◌, ℕ, ◌+◌, ◌-◌, ◌^◌, ◌<◌, ◌≤◌, max, Bool, true, false, cond, List, [], ◌∷◌, ◌++◌, Option, Some, None, inl, inr, refl, sym, ap, subst, ◌∙◌, append_assoc, arith}
use Rattle.std.specs.Prelude.{unwrap_or, is_some, not, ◌&&◌}
use Rattle.std.specs.Option.{option_map}
use Rattle.std.specs.List.{AllByRecursion}
use Rattle.std.proofs.lemmas.List.{append-nil}
use Rattle.std.proofs.lemmas.Bool.{cases_Bool}
use Rattle.tk_core.specs.Lists.{capped, sum_of, sum_since}
use Rattle.tk_core.specs.History.{accepted}
use Rattle.tk_core.specs.Fold.{is_accepted, fold_of, answer_at, row_after}
use Rattle.tk_core.specs.Task.{row_of, task_kind, start_at, end_at, close_at, wake_at, capped_wait, counted_waits, waits_since, lasting, with_more, waits_until, after_end, waited_of, waited_until, awaits_poll, waiting_since, wait_ended_by}
use Rattle.tk_core.specs.declared.task.row.TaskRow.{TaskRow}
use Rattle.tk_core.specs.declared.task.wait.Waits.{Waits}
use Rattle.tk_core.specs.declared.task.call.TaskCall.{TaskCall}
use Rattle.tk_core.specs.declared.task.call.TaskCall.TheVariants.{PollStart, PollEnd, Close, CloneWaker, WakeVal, WakeRef, Release, Enlist, Read}
use Rattle.tk_core.specs.Laws.Folded.{after, steps_to}
use Rattle.tk_core.specs.Laws.TaskSteps.{changed, follows}

-- one more call, be it refused
pub one_later : (opening : TaskRow) (calls : List TaskCall) (call : TaskCall) → row_after task_kind opening (calls ++ call ∷ []) ≡ after task_kind changed (row_after task_kind opening calls) call
one_later opening calls call =
    let row = row_after task_kind opening calls in
    sym (steps_to task_kind row call (after task_kind changed row call, answer_at task_kind row call) (follows row call _ (λ within. refl)) opening calls refl).0

-- a closed task is not scheduled
closed_is_still : (opening : TaskRow) (calls : List TaskCall) → is_some (row_after task_kind opening calls).dropped ≡ true → (row_after task_kind opening calls).scheduled ≡ false
unfolding row_after fold_of row_of
closed_is_still opening calls closed = rw closed refl

-- ---- a wake of a task that waits changes nothing

-- a task that waits: scheduled, open and not polled
pub record IsWaiting (row : TaskRow) : Type 0 where
  pub scheduled : row.scheduled ≡ true
  pub unpolled : row.polling ≡ false
  pub unclosed : is_some row.dropped ≡ false

-- a call after which a task that waits waits on, and a wake's moment is this one at most
abbrev pub LeavesWaiting : ℕ → TaskCall → Type 0
LeavesWaiting m call = (start_at call ≡ None) × (end_at call ≡ None) × (close_at call ≡ None) × (unwrap_or (wake_at call) 0 ≤ m)

rejoined : (o : Option Waits) (created woken ended w m : ℕ) → w ≤ m → option_map (with_more (m - max created (max (max woken w) ended))) (option_map (with_more (w - max created (max woken ended))) o) ≡ option_map (with_more (m - max created (max woken ended))) o
rejoined None created woken ended w m le = refl
rejoined (Some n) created woken ended w m le =
    let total : capped (capped (n.total + (w - max created (max woken ended))) + (m - max created (max (max woken w) ended))) ≡ capped (n.total + (m - max created (max woken ended))) = omega arith in
    let so_far : capped_wait (capped_wait (n.so_far + (w - max created (max woken ended))) + (m - max created (max (max woken w) ended))) ≡ capped_wait (n.so_far + (m - max created (max woken ended))) = omega arith in
    rw (total, so_far) refl

-- what is counted of its waits up to a moment is the same after a wake up to that moment
woken_waits : (row : TaskRow) (w m : ℕ) (from_self : Bool) → IsWaiting row → w ≤ m → (waits_until (changed row (WakeVal w from_self)) m ≡ waits_until row m) × (waits_until (changed row (WakeRef w from_self)) m ≡ waits_until row m)
woken_waits row w m from_self waits le =
    let e = rejoined row.waits row.created (unwrap_or row.last_wake 0) (unwrap_or row.last_ended 0) w m le in
    rw (waits.scheduled, waits.unpolled, waits.unclosed) (e, e)

-- whichever of two rows, what holds of both
either : (P : TaskRow → Type 0) (accepts : Bool) (next row : TaskRow) → P next → P row → P (cond accepts next row)
either P true next row p q = p
either P false next row p q = q

-- a task that waits waits on, and what is counted of its waits up to a moment stays
abbrev pub GoesOn : ℕ → TaskRow → TaskRow → Type 0
GoesOn m row next = IsWaiting next × (waits_until next m ≡ waits_until row m)

goes_on : (row : TaskRow) (m : ℕ) (call : TaskCall) → IsWaiting row → LeavesWaiting m call → GoesOn m row (after task_kind changed row call)
goes_on row m (PollStart n) waits leaves = absurd cc
goes_on row m (PollEnd n) waits leaves = absurd cc
goes_on row m (Close n) waits leaves = absurd cc
goes_on row m CloneWaker waits leaves = either (GoesOn m row) (is_accepted (answer_at task_kind row CloneWaker)) (changed row CloneWaker) row (record { scheduled = waits.scheduled; unpolled = waits.unpolled; unclosed = waits.unclosed }, refl) (waits, refl)
goes_on row m (WakeVal w from_self) waits leaves = (record { scheduled = rw waits.unclosed refl; unpolled = waits.unpolled; unclosed = waits.unclosed }, (woken_waits row w m from_self waits leaves.3).0)
goes_on row m (WakeRef w from_self) waits leaves = (record { scheduled = rw waits.unclosed refl; unpolled = waits.unpolled; unclosed = waits.unclosed }, (woken_waits row w m from_self waits leaves.3).1)
goes_on row m Release waits leaves = (record { scheduled = waits.scheduled; unpolled = waits.unpolled; unclosed = waits.unclosed }, refl)
goes_on row m Enlist waits leaves = either (GoesOn m row) (is_accepted (answer_at task_kind row Enlist)) (changed row Enlist) row (record { scheduled = waits.scheduled; unpolled = waits.unpolled; unclosed = waits.unclosed }, refl) (waits, refl)
goes_on row m Read waits leaves = (waits, refl)

-- through any such calls
pub waits_on : (opening : TaskRow) (before more : List TaskCall) (m : ℕ) → IsWaiting (row_after task_kind opening before) → AllByRecursion (LeavesWaiting m) more
    → GoesOn m (row_after task_kind opening before) (row_after task_kind opening (before ++ more))
waits_on opening before [] m waits leave = rw append-nil (waits, refl)
waits_on opening before (call ∷ more) m waits leave =
    let row = row_after task_kind opening before in
    let one : GoesOn m row (row_after task_kind opening (before ++ call ∷ [])) = subst (GoesOn m row) (sym (one_later opening before call)) (goes_on row m call waits leave.0) in
    let rest = waits_on opening (before ++ call ∷ []) more m one.0 leave.1 in
    let same : row_after task_kind opening ((before ++ call ∷ []) ++ more) ≡ row_after task_kind opening (before ++ call ∷ more) = ap (λ cs. row_after task_kind opening cs) (append_assoc before (call ∷ []) more) in
    subst (GoesOn m row) same (rest.0, rest.1 ∙ one.1)

-- a task that waits, however often it is woken meanwhile, and is then polled has waited from where it waited first up to that start
pub each_wait : (opening : TaskRow) (before more : List TaskCall) (m : ℕ) → IsWaiting (row_after task_kind opening before) → AllByRecursion (LeavesWaiting m) more
    → (row_after task_kind opening ((before ++ more) ++ PollStart m ∷ [])).waits ≡ option_map (with_more (m - waits_since (row_after task_kind opening before))) (row_after task_kind opening before).waits
each_wait opening before more m waits leave =
    let on = waits_on opening before more m waits leave in
    let row = row_after task_kind opening before in
    ap (λ (r : TaskRow). r.waits) (one_later opening (before ++ more) (PollStart m))
    ∙ (started (row_after task_kind opening (before ++ more)) m on.0 ∙ (on.1 ∙ up_to row m waits))
  where
    started : (row : TaskRow) (m : ℕ) → IsWaiting row → (after task_kind changed row (PollStart m)).waits ≡ waits_until row m
    started row m waits = rw (waits.unclosed, waits.unpolled) refl

    up_to : (row : TaskRow) (m : ℕ) → IsWaiting row → waits_until row m ≡ option_map (with_more (m - waits_since row)) row.waits
    up_to row m waits = rw (waits.scheduled, waits.unpolled) refl

-- and that start would end a wait of what was counted of it first and all of this time
pub whole_wait : (opening : TaskRow) (before more : List TaskCall) (m : ℕ) → IsWaiting (row_after task_kind opening before) → AllByRecursion (LeavesWaiting m) more
    → wait_ended_by (row_after task_kind opening (before ++ more)) m ≡ option_map (λ n. capped_wait (n.so_far + (m - waits_since (row_after task_kind opening before)))) (row_after task_kind opening before).waits
whole_wait opening before more m waits leave =
    let on = waits_on opening before more m waits leave in
    let row = row_after task_kind opening before in
    told (row_after task_kind opening (before ++ more)) m on.0 ∙ (ap (option_map (λ (n : Waits). n.so_far)) on.1 ∙ up_to row m waits)
  where
    told : (row : TaskRow) (m : ℕ) → IsWaiting row → wait_ended_by row m ≡ option_map (λ n. n.so_far) (waits_until row m)
    told row m waits = rw (waits.scheduled, waits.unpolled, waits.unclosed) refl

    joined : (o : Option Waits) (lasts : ℕ) → option_map (λ n. n.so_far) (option_map (with_more lasts) o) ≡ option_map (λ n. capped_wait (n.so_far + lasts)) o
    joined None lasts = refl
    joined (Some n) lasts = refl

    up_to : (row : TaskRow) (m : ℕ) → IsWaiting row → option_map (λ n. n.so_far) (waits_until row m) ≡ option_map (λ n. capped_wait (n.so_far + (m - waits_since row))) row.waits
    up_to row m waits = rw (waits.scheduled, waits.unpolled) (joined row.waits (m - waits_since row))

-- ---- since when it waits

-- up to a moment, what is counted of the wait that lasts is all of it: fewer than 2^56 nanoseconds
abbrev pub IsShort : ℕ → TaskRow → Type 0
IsShort m row = unwrap_or (option_map (λ n. n.so_far + (m - waits_since row)) row.waits) 0 < 2 ^ 56

-- it waits on, since the same moment
abbrev pub WaitsSince : ℕ → TaskRow → TaskRow → Type 0
WaitsSince m row next = IsShort m next × (waiting_since next ≡ waiting_since row)

joined_since : (o : Option Waits) (created woken ended w m : ℕ) → w ≤ m → unwrap_or (option_map (λ n. n.so_far + (m - max created (max woken ended))) o) 0 < 2 ^ 56
    → let more = option_map (with_more (w - max created (max woken ended))) o in
    (unwrap_or (option_map (λ n. n.so_far + (m - max created (max (max woken w) ended))) more) 0 < 2 ^ 56)
    × (option_map (λ n. max created (max (max woken w) ended) - n.so_far) more ≡ option_map (λ n. max created (max woken ended) - n.so_far) o)
joined_since None created woken ended w m le short = (short, refl)
joined_since (Some n) created woken ended w m le short = (omega arith, ap (λ k. Some k) (omega arith))

woken_since : (row : TaskRow) (w m : ℕ) (from_self : Bool) → IsWaiting row → w ≤ m → IsShort m row → WaitsSince m row (changed row (WakeVal w from_self)) × WaitsSince m row (changed row (WakeRef w from_self))
woken_since row w m from_self waits le short =
    let e = joined_since row.waits row.created (unwrap_or row.last_wake 0) (unwrap_or row.last_ended 0) w m le short in
    rw (waits.scheduled, waits.unpolled, waits.unclosed) ((e.0, e.1), (e.0, e.1))

since_on : (row : TaskRow) (m : ℕ) (call : TaskCall) → IsWaiting row → IsShort m row → LeavesWaiting m call → WaitsSince m row (after task_kind changed row call)
since_on row m (PollStart n) waits short leaves = absurd cc
since_on row m (PollEnd n) waits short leaves = absurd cc
since_on row m (Close n) waits short leaves = absurd cc
since_on row m CloneWaker waits short leaves = either (WaitsSince m row) (is_accepted (answer_at task_kind row CloneWaker)) (changed row CloneWaker) row (short, refl) (short, refl)
since_on row m (WakeVal w from_self) waits short leaves = (woken_since row w m from_self waits leaves.3 short).0
since_on row m (WakeRef w from_self) waits short leaves = (woken_since row w m from_self waits leaves.3 short).1
since_on row m Release waits short leaves = (short, refl)
since_on row m Enlist waits short leaves = either (WaitsSince m row) (is_accepted (answer_at task_kind row Enlist)) (changed row Enlist) row (short, refl) (short, refl)
since_on row m Read waits short leaves = (short, refl)

-- through any such calls, as long as the wait is short: since when it waits is the moment from which it waited first, whatever wakes come, and in whatever order
pub since_stays : (opening : TaskRow) (before more : List TaskCall) (m : ℕ) → IsWaiting (row_after task_kind opening before) → IsShort m (row_after task_kind opening before) → AllByRecursion (LeavesWaiting m) more
    → WaitsSince m (row_after task_kind opening before) (row_after task_kind opening (before ++ more))
since_stays opening before [] m waits short leave = rw append-nil (short, refl)
since_stays opening before (call ∷ more) m waits short leave =
    let row = row_after task_kind opening before in
    let later = one_later opening before call in
    let one : WaitsSince m row (row_after task_kind opening (before ++ call ∷ [])) = subst (WaitsSince m row) (sym later) (since_on row m call waits short leave.0) in
    let waiting : IsWaiting (row_after task_kind opening (before ++ call ∷ [])) = subst IsWaiting (sym later) (goes_on row m call waits leave.0).0 in
    let rest = since_stays opening (before ++ call ∷ []) more m waiting one.0 leave.1 in
    let same : row_after task_kind opening ((before ++ call ∷ []) ++ more) ≡ row_after task_kind opening (before ++ call ∷ more) = ap (λ cs. row_after task_kind opening cs) (append_assoc before (call ∷ []) more) in
    subst (WaitsSince m row) same (rest.0, rest.1 ∙ one.1)

-- what was counted of the wait that lasts; 0 where that is not counted
abbrev pub so_far_in : TaskRow → ℕ
so_far_in row = unwrap_or (option_map (λ n. n.so_far) row.waits) 0

-- a task that is open, and neither waits nor is polled, has nothing counted of a wait
abbrev pub BeginsAnew : TaskRow → Type 0
BeginsAnew row = awaits_poll row ≡ false → row.polling ≡ false → is_some row.dropped ≡ false → so_far_in row ≡ 0

-- nothing is added while it doesn't wait
nothing_more : (o : Option Waits) → unwrap_or (option_map (λ n. n.so_far) o) 0 ≡ 0 → unwrap_or (option_map (λ n. n.so_far) (option_map (with_more 0) o)) 0 ≡ 0
nothing_more None e = refl
nothing_more (Some n) e = omega arith

nothing_left : (o : Option Waits) → unwrap_or (option_map (λ n. n.so_far) (option_map after_end o)) 0 ≡ 0
nothing_left None = refl
nothing_left (Some n) = refl

-- an end of a poll is refused where none is open
refused : (row : TaskRow) (m : ℕ) → row.polling ≡ false → is_accepted (answer_at task_kind row (PollEnd m)) ≡ false
refused row m unpolled = elim (cases_Bool (is_some row.dropped)) [
  | inl closed ↦ rw closed refl
  | inr unclosed ↦ rw (unclosed, unpolled) refl
]

neither : (P : TaskRow → Type 0) (accepts : Bool) (next row : TaskRow) → accepts ≡ false → P row → P (cond accepts next row)
neither P true next row e p = absurd cc
neither P false next row e p = p

unscheduled : (row : TaskRow) (m : ℕ) → awaits_poll row ≡ false → is_some row.dropped ≡ false → lasting row m ≡ 0
unscheduled row m idle live = go row.polling row.scheduled (is_some row.dropped) idle live
  where
    go : (polling scheduled closed : Bool) → (scheduled && not polling && not closed) ≡ false → closed ≡ false → cond polling 0 (cond scheduled (m - waits_since row) 0) ≡ 0
    go true scheduled closed e live = refl
    go false false closed e live = refl
    go false true false e live = absurd cc
    go false true true e live = absurd cc

-- a wake leaves no open task that neither waits nor is polled
woken_waits_on : (row : TaskRow) → (not (is_some row.dropped) && not row.polling && not (is_some row.dropped)) ≡ false → row.polling ≡ false → is_some row.dropped ≡ false → ⊥
woken_waits_on row idle unpolled live = go row.polling (is_some row.dropped) idle unpolled live
  where
    go : (polling closed : Bool) → (not closed && not polling && not closed) ≡ false → polling ≡ false → closed ≡ false → ⊥
    go false false idle unpolled live = absurd cc
    go true closed idle unpolled live = absurd cc
    go false true idle unpolled live = absurd cc

begins_on : (row : TaskRow) (call : TaskCall) → BeginsAnew row → BeginsAnew (after task_kind changed row call)
begins_on row (PollStart m) begins = either BeginsAnew (is_accepted (answer_at task_kind row (PollStart m))) (changed row (PollStart m)) row (λ idle unpolled live. absurd cc) begins
begins_on row (PollEnd m) begins = either BeginsAnew (is_accepted (answer_at task_kind row (PollEnd m))) (changed row (PollEnd m)) row (λ idle unpolled live. nothing_left row.waits) begins
begins_on row (Close m) begins = either BeginsAnew (is_accepted (answer_at task_kind row (Close m))) (changed row (Close m)) row (λ idle unpolled live. absurd cc) begins
begins_on row CloneWaker begins = either BeginsAnew (is_accepted (answer_at task_kind row CloneWaker)) (changed row CloneWaker) row begins begins
begins_on row (WakeVal m from_self) begins = λ idle unpolled live. absurd (woken_waits_on row idle unpolled live)
begins_on row (WakeRef m from_self) begins = λ idle unpolled live. absurd (woken_waits_on row idle unpolled live)
begins_on row Release begins = begins
begins_on row Enlist begins = either BeginsAnew (is_accepted (answer_at task_kind row Enlist)) (changed row Enlist) row begins begins
begins_on row Read begins = begins

begins_first : (opening : TaskRow) → so_far_in (row_after task_kind opening []) ≡ 0
unfolding row_after fold_of row_of sum_since accepted
begins_first opening = elim opening.waits as (λ (o : Option Waits). unwrap_or (option_map (λ n. n.so_far) (option_map (λ none. counted_waits opening.created []) o)) 0 ≡ 0) [ None ↦ refl | Some n ↦ refl ]

begins_from : (opening : TaskRow) (before more : List TaskCall) → BeginsAnew (row_after task_kind opening before) → BeginsAnew (row_after task_kind opening (before ++ more))
begins_from opening before [] begins = rw append-nil begins
begins_from opening before (call ∷ more) begins =
    let one : BeginsAnew (row_after task_kind opening (before ++ call ∷ [])) = subst BeginsAnew (sym (one_later opening before call)) (begins_on (row_after task_kind opening before) call begins) in
    subst (λ cs. BeginsAnew (row_after task_kind opening cs)) (append_assoc before (call ∷ []) more) (begins_from opening (before ++ call ∷ []) more one)

pub begins_anew : (opening : TaskRow) (calls : List TaskCall) → BeginsAnew (row_after task_kind opening calls)
begins_anew opening calls = begins_from opening [] calls (λ idle unpolled live. begins_first opening)

adds : (row : TaskRow) (m : ℕ) → awaits_poll row ≡ false → is_some row.dropped ≡ false → so_far_in row ≡ 0 → unwrap_or (option_map (λ n. n.so_far) (waits_until row m)) 0 ≡ 0
adds row m idle live none = rw (unscheduled row m idle live) (nothing_more row.waits none)

-- nor has one whose wait begins
adds_none : (row : TaskRow) (call : TaskCall) → awaits_poll row ≡ false → is_some row.dropped ≡ false → so_far_in row ≡ 0 → so_far_in (after task_kind changed row call) ≡ 0
adds_none row (PollStart m) idle live none = either (λ r. so_far_in r ≡ 0) (is_accepted (answer_at task_kind row (PollStart m))) (changed row (PollStart m)) row (adds row m idle live none) none
adds_none row (PollEnd m) idle live none = either (λ r. so_far_in r ≡ 0) (is_accepted (answer_at task_kind row (PollEnd m))) (changed row (PollEnd m)) row (nothing_left row.waits) none
adds_none row (Close m) idle live none = either (λ r. so_far_in r ≡ 0) (is_accepted (answer_at task_kind row (Close m))) (changed row (Close m)) row (adds row m idle live none) none
adds_none row CloneWaker idle live none = either (λ r. so_far_in r ≡ 0) (is_accepted (answer_at task_kind row CloneWaker)) (changed row CloneWaker) row none none
adds_none row (WakeVal m from_self) idle live none = adds row m idle live none
adds_none row (WakeRef m from_self) idle live none = adds row m idle live none
adds_none row Release idle live none = none
adds_none row Enlist idle live none = either (λ r. so_far_in r ≡ 0) (is_accepted (answer_at task_kind row Enlist)) (changed row Enlist) row none none
adds_none row Read idle live none = none

polls_on : (row : TaskRow) (call : TaskCall) (next : TaskRow) → row.polling ≡ true → next.polling ≡ true → (cond (is_accepted (answer_at task_kind row call)) next row).polling ≡ false → ⊥
polls_on row call next polled still unpolled = go (is_accepted (answer_at task_kind row call)) unpolled
  where
    go : (accepts : Bool) → (cond accepts next row).polling ≡ false → ⊥
    go true e = absurd cc
    go false e = absurd cc

-- a call after which a polled task is polled no more ended its poll
ended_anew : (row : TaskRow) (call : TaskCall) → row.polling ≡ true → is_some row.dropped ≡ false → (after task_kind changed row call).polling ≡ false → so_far_in (after task_kind changed row call) ≡ 0
ended_anew row (PollStart m) polled live unpolled = absurd (polls_on row (PollStart m) (changed row (PollStart m)) polled refl unpolled)
ended_anew row (PollEnd m) polled live unpolled = rw (live, polled) (nothing_left row.waits)
ended_anew row (Close m) polled live unpolled = absurd (polls_on row (Close m) (changed row (Close m)) polled polled unpolled)
ended_anew row CloneWaker polled live unpolled = absurd (polls_on row CloneWaker (changed row CloneWaker) polled polled unpolled)
ended_anew row (WakeVal m from_self) polled live unpolled = absurd cc
ended_anew row (WakeRef m from_self) polled live unpolled = absurd cc
ended_anew row Release polled live unpolled = absurd cc
ended_anew row Enlist polled live unpolled = absurd (polls_on row Enlist (changed row Enlist) polled polled unpolled)
ended_anew row Read polled live unpolled = absurd cc

waits_unpolled : (row : TaskRow) → awaits_poll row ≡ true → row.polling ≡ false
waits_unpolled row waits = go row.scheduled row.polling (is_some row.dropped) waits
  where
    go : (scheduled polling closed : Bool) → (scheduled && not polling && not closed) ≡ true → polling ≡ false
    go scheduled false closed e = refl
    go true true closed e = absurd cc
    go false true closed e = absurd cc

pub begins_with_none : (opening : TaskRow) (before : List TaskCall) (call : TaskCall) → awaits_poll (row_after task_kind opening before) ≡ false → is_some (row_after task_kind opening before).dropped ≡ false
    → awaits_poll (row_after task_kind opening (before ++ call ∷ [])) ≡ true → so_far_in (row_after task_kind opening (before ++ call ∷ [])) ≡ 0
begins_with_none opening before call idle live begun =
    let row = row_after task_kind opening before in
    let next : awaits_poll (after task_kind changed row call) ≡ true = subst (λ r. awaits_poll r ≡ true) (one_later opening before call) begun in
    subst (λ r. so_far_in r ≡ 0) (sym (one_later opening before call))
    (elim (cases_Bool row.polling) [
      | inl polled ↦ ended_anew row call polled live (waits_unpolled (after task_kind changed row call) next)
      | inr unpolled ↦ adds_none row call idle live (begins_anew opening before idle unpolled live)
    ])

-- so it waits since the moment at which its wait began, with none counted of it
pub since_first : (opening : TaskRow) (before more : List TaskCall) (m : ℕ) → IsWaiting (row_after task_kind opening before) → so_far_in (row_after task_kind opening before) ≡ 0
    → IsShort m (row_after task_kind opening before) → AllByRecursion (LeavesWaiting m) more
    → waiting_since (row_after task_kind opening (before ++ more)) ≡ option_map (λ n. waits_since (row_after task_kind opening before)) (row_after task_kind opening before).waits
since_first opening before more m waits none short leave =
    let row = row_after task_kind opening before in
    (since_stays opening before more m waits short leave).1 ∙ at_first row waits none
  where
    whole : (o : Option Waits) (since : ℕ) → unwrap_or (option_map (λ n. n.so_far) o) 0 ≡ 0 → option_map (λ n. since - n.so_far) o ≡ option_map (λ n. since) o
    whole None since none = refl
    whole (Some n) since none = ap (λ k. Some k) (omega arith)

    at_first : (row : TaskRow) → IsWaiting row → so_far_in row ≡ 0 → waiting_since row ≡ option_map (λ n. waits_since row) row.waits
    at_first row waits none = rw (waits.scheduled, waits.unpolled, waits.unclosed) (whole row.waits (waits_since row) none)

-- ---- it never falls

-- how long it has waited, with what lasts up to a moment; 0 where that is not counted
abbrev pub waited_at : TaskRow → ℕ → ℕ
waited_at row t = unwrap_or (waited_until row t) 0

-- by how much a start or a close comes before a moment
abbrev pub early : ℕ → TaskCall → ℕ
early t (PollStart m) = t - m
early t (Close m) = t - m
early t _ = 0

-- what is told of all waits, with what lasts
abbrev total_with : ℕ → Option Waits → ℕ
total_with lasts o = unwrap_or (option_map (λ n. n.total) (option_map (with_more lasts) o)) 0

-- what is told later is no less
later_is_more : (o : Option Waits) (a b : ℕ) → a ≤ b → total_with a o ≤ total_with b o
later_is_more None a b le = omega arith
later_is_more (Some n) a b le = omega arith

lasts_more : (row : TaskRow) (t u : ℕ) → t ≤ u → lasting row t ≤ lasting row u
lasts_more row t u le = elim (cases_Bool row.polling) [
  | inl polled ↦ rw polled (omega arith)
  | inr unpolled ↦ rw unpolled (elim (cases_Bool row.scheduled) [
    | inl scheduled ↦ rw scheduled (omega arith)
    | inr idle ↦ rw idle (omega arith)
  ])
]

pub rises_by_time : (row : TaskRow) (t u : ℕ) → t ≤ u → waited_at row t ≤ waited_at row u
rises_by_time row t u le = later_is_more row.waits (lasting row t) (lasting row u) (lasts_more row t u le)

-- what a call adds, and what lasts after it
falls_by : (o : Option Waits) (a added b early : ℕ) → a ≤ added + b + early → total_with a o ≤ total_with b (option_map (with_more added) o) + early
falls_by None a added b early le = omega arith
falls_by (Some n) a added b early le = omega arith

falls_by_end : (o : Option Waits) (a b : ℕ) → a ≤ b → total_with a o ≤ total_with b (option_map after_end o) + 0
falls_by_end None a b le = omega arith
falls_by_end (Some n) a b le = omega arith

at_start : (polling scheduled : Bool) (s t m : ℕ) → cond polling 0 (cond scheduled (t - s) 0) ≤ cond polling 0 (cond scheduled (m - s) 0) + 0 + (t - m)
at_start true scheduled s t m = omega arith
at_start false true s t m = omega arith
at_start false false s t m = omega arith

at_close : (polling scheduled : Bool) (s t m : ℕ) → cond polling 0 (cond scheduled (t - s) 0) ≤ cond polling 0 (cond scheduled (m - s) 0) + cond polling 0 0 + (t - m)
at_close true scheduled s t m = omega arith
at_close false true s t m = omega arith
at_close false false s t m = omega arith

at_wake : (polling scheduled closed : Bool) (created woken ended t m : ℕ) → (closed ≡ true → scheduled ≡ false)
    → cond polling 0 (cond scheduled (t - max created (max woken ended)) 0) ≤ cond polling 0 (cond scheduled (m - max created (max woken ended)) 0) + cond polling 0 (cond (not closed) (t - max created (max (max woken m) ended)) 0) + 0
at_wake true scheduled closed created woken ended t m still = omega arith
at_wake false false closed created woken ended t m still = omega arith
at_wake false true false created woken ended t m still = omega arith
at_wake false true true created woken ended t m still = let no : true ≡ false = still refl in absurd cc

-- a call takes nothing away but how much earlier it comes, if it starts a poll or closes
abbrev NoLess : ℕ → TaskCall → TaskRow → TaskRow → Type 0
NoLess t call row next = waited_at row t ≤ waited_at next t + early t call

no_less : (row : TaskRow) (t : ℕ) (call : TaskCall) → (is_some row.dropped ≡ true → row.scheduled ≡ false) → NoLess t call row (after task_kind changed row call)
no_less row t (PollStart m) still = either (NoLess t (PollStart m) row) (is_accepted (answer_at task_kind row (PollStart m))) (changed row (PollStart m)) row (falls_by row.waits (lasting row t) (lasting row m) 0 (t - m) (at_start row.polling row.scheduled (waits_since row) t m)) (omega arith)
no_less row t (PollEnd m) still = elim (cases_Bool row.polling) [
  | inl polled ↦ either (NoLess t (PollEnd m) row) (is_accepted (answer_at task_kind row (PollEnd m))) (changed row (PollEnd m)) row (rw polled (falls_by_end row.waits 0 (lasting (changed row (PollEnd m)) t) (omega arith))) (omega arith)
  | inr unpolled ↦ neither (NoLess t (PollEnd m) row) (is_accepted (answer_at task_kind row (PollEnd m))) (changed row (PollEnd m)) row (refused row m unpolled) (omega arith)
]
no_less row t (Close m) still = either (NoLess t (Close m) row) (is_accepted (answer_at task_kind row (Close m))) (changed row (Close m)) row (falls_by row.waits (lasting row t) (lasting row m) (cond row.polling 0 0) (t - m) (at_close row.polling row.scheduled (waits_since row) t m)) (omega arith)
no_less row t CloneWaker still = either (NoLess t CloneWaker row) (is_accepted (answer_at task_kind row CloneWaker)) (changed row CloneWaker) row (omega arith) (omega arith)
no_less row t (WakeVal m from_self) still = falls_by row.waits (lasting row t) (lasting row m) (lasting (changed row (WakeVal m from_self)) t) 0 (at_wake row.polling row.scheduled (is_some row.dropped) row.created (unwrap_or row.last_wake 0) (unwrap_or row.last_ended 0) t m still)
no_less row t (WakeRef m from_self) still = falls_by row.waits (lasting row t) (lasting row m) (lasting (changed row (WakeRef m from_self)) t) 0 (at_wake row.polling row.scheduled (is_some row.dropped) row.created (unwrap_or row.last_wake 0) (unwrap_or row.last_ended 0) t m still)
no_less row t Release still = omega arith
no_less row t Enlist still = either (NoLess t Enlist row) (is_accepted (answer_at task_kind row Enlist)) (changed row Enlist) row (omega arith) (omega arith)
no_less row t Read still = omega arith

-- so what is told of a task never falls, while no poll of it starts and no close comes earlier than what was told before
pub never_falls : (opening : TaskRow) (before more : List TaskCall) (t u : ℕ) → t ≤ u → AllByRecursion (λ call. early t call ≡ 0) more
    → waited_at (row_after task_kind opening before) t ≤ waited_at (row_after task_kind opening (before ++ more)) u
never_falls opening before [] t u le none = rw append-nil (rises_by_time (row_after task_kind opening before) t u le)
never_falls opening before (call ∷ more) t u le none =
    let row = row_after task_kind opening before in
    let one : NoLess t call row (row_after task_kind opening (before ++ call ∷ [])) = subst (NoLess t call row) (sym (one_later opening before call)) (no_less row t call (closed_is_still opening before)) in
    let rest = never_falls opening (before ++ call ∷ []) more t u le none.1 in
    let same : row_after task_kind opening ((before ++ call ∷ []) ++ more) ≡ row_after task_kind opening (before ++ call ∷ more) = ap (λ cs. row_after task_kind opening cs) (append_assoc before (call ∷ []) more) in
    subst (λ (r : TaskRow). waited_at row t ≤ waited_at r u) same (omega (arith, one, rest, none.0))

-- ---- what is told of the wait that lasts never falls

-- what is counted of it, with what lasts up to a moment; 0 where that is not counted
abbrev pub wait_at : TaskRow → ℕ → ℕ
wait_at row t = unwrap_or (option_map (λ n. n.so_far) (waits_until row t)) 0

abbrev wait_with : ℕ → Option Waits → ℕ
wait_with lasts o = unwrap_or (option_map (λ n. n.so_far) (option_map (with_more lasts) o)) 0

longer : (o : Option Waits) (a b : ℕ) → a ≤ b → wait_with a o ≤ wait_with b o
longer None a b le = omega arith
longer (Some n) a b le = omega arith

longer_by : (o : Option Waits) (a added b : ℕ) → a ≤ added + b + 0 → wait_with a o ≤ wait_with b (option_map (with_more added) o)
longer_by None a added b le = omega arith
longer_by (Some n) a added b le = omega arith

-- a call that neither starts a poll nor ends one, nor closes
abbrev pub EndsNoWait : TaskCall → Type 0
EndsNoWait call = (start_at call ≡ None) × (end_at call ≡ None) × (close_at call ≡ None)

abbrev NoShorter : ℕ → TaskRow → TaskRow → Type 0
NoShorter t row next = wait_at row t ≤ wait_at next t

no_shorter : (row : TaskRow) (t : ℕ) (call : TaskCall) → EndsNoWait call → (is_some row.dropped ≡ true → row.scheduled ≡ false) → NoShorter t row (after task_kind changed row call)
no_shorter row t (PollStart m) ends still = absurd cc
no_shorter row t (Close m) ends still = absurd cc
no_shorter row t (PollEnd m) ends still = absurd cc
no_shorter row t CloneWaker ends still = either (NoShorter t row) (is_accepted (answer_at task_kind row CloneWaker)) (changed row CloneWaker) row (omega arith) (omega arith)
no_shorter row t (WakeVal m from_self) ends still = longer_by row.waits (lasting row t) (lasting row m) (lasting (changed row (WakeVal m from_self)) t) (at_wake row.polling row.scheduled (is_some row.dropped) row.created (unwrap_or row.last_wake 0) (unwrap_or row.last_ended 0) t m still)
no_shorter row t (WakeRef m from_self) ends still = longer_by row.waits (lasting row t) (lasting row m) (lasting (changed row (WakeRef m from_self)) t) (at_wake row.polling row.scheduled (is_some row.dropped) row.created (unwrap_or row.last_wake 0) (unwrap_or row.last_ended 0) t m still)
no_shorter row t Release ends still = omega arith
no_shorter row t Enlist ends still = either (NoShorter t row) (is_accepted (answer_at task_kind row Enlist)) (changed row Enlist) row (omega arith) (omega arith)
no_shorter row t Read ends still = omega arith

-- while no poll of it starts or ends and it isn't closed, whatever the moments of its wakes
pub wait_never_falls : (opening : TaskRow) (before more : List TaskCall) (t u : ℕ) → t ≤ u → AllByRecursion EndsNoWait more
    → wait_at (row_after task_kind opening before) t ≤ wait_at (row_after task_kind opening (before ++ more)) u
wait_never_falls opening before [] t u le end = let row = row_after task_kind opening before in rw append-nil (longer row.waits (lasting row t) (lasting row u) (lasts_more row t u le))
wait_never_falls opening before (call ∷ more) t u le end =
    let row = row_after task_kind opening before in
    let one : NoShorter t row (row_after task_kind opening (before ++ call ∷ [])) = subst (NoShorter t row) (sym (one_later opening before call)) (no_shorter row t call end.0 (closed_is_still opening before)) in
    let rest = wait_never_falls opening (before ++ call ∷ []) more t u le end.1 in
    let same : row_after task_kind opening ((before ++ call ∷ []) ++ more) ≡ row_after task_kind opening (before ++ call ∷ more) = ap (λ cs. row_after task_kind opening cs) (append_assoc before (call ∷ []) more) in
    subst (λ (r : TaskRow). wait_at row t ≤ wait_at r u) same (omega (arith, one, rest))

-- of a task that waits, that is what is told of its wait
pub told_wait : (row : TaskRow) (t : ℕ) → IsWaiting row → unwrap_or (wait_ended_by row t) 0 ≡ wait_at row t
told_wait row t waits = rw (waits.scheduled, waits.unpolled, waits.unclosed) refl

-- ---- what isn't counted

-- a row without what is counted of waits
abbrev pub without_waits : TaskRow → TaskRow
without_waits row = record row { waits = None }

stripped : (accepts : Bool) (next row : TaskRow) → without_waits (cond accepts next row) ≡ cond accepts (without_waits next) (without_waits row)
stripped true next row = refl
stripped false next row = refl

alike : (row : TaskRow) (call : TaskCall) → without_waits (after task_kind changed row call) ≡ after task_kind changed (without_waits row) call
alike row (PollStart m) = stripped (is_accepted (answer_at task_kind row (PollStart m))) (changed row (PollStart m)) row
alike row (PollEnd m) = stripped (is_accepted (answer_at task_kind row (PollEnd m))) (changed row (PollEnd m)) row
alike row (Close m) = stripped (is_accepted (answer_at task_kind row (Close m))) (changed row (Close m)) row
alike row CloneWaker = stripped (is_accepted (answer_at task_kind row CloneWaker)) (changed row CloneWaker) row
alike row (WakeVal m from_self) = refl
alike row (WakeRef m from_self) = refl
alike row Release = refl
alike row Enlist = stripped (is_accepted (answer_at task_kind row Enlist)) (changed row Enlist) row
alike row Read = refl

abbrev IsStripped : TaskRow → List TaskCall → Type 0
IsStripped opening calls = without_waits (row_after task_kind opening calls) ≡ row_after task_kind (without_waits opening) calls

begins_stripped : (opening : TaskRow) → IsStripped opening []
unfolding row_after fold_of row_of
begins_stripped opening = refl

stays_stripped : (opening : TaskRow) (before more : List TaskCall) → IsStripped opening before → IsStripped opening (before ++ more)
stays_stripped opening before [] same = rw append-nil same
stays_stripped opening before (call ∷ more) same =
    let one : IsStripped opening (before ++ call ∷ []) =
    ap without_waits (one_later opening before call) ∙ (alike (row_after task_kind opening before) call ∙ (ap (λ row. after task_kind changed row call) same ∙ sym (one_later (without_waits opening) before call))) in
    subst (IsStripped opening) (append_assoc before (call ∷ []) more) (stays_stripped opening (before ++ call ∷ []) more one)

-- counting shows nowhere else: without the count, the row is that of the same calls where nothing is counted
pub shows_nowhere_else : (opening : TaskRow) (calls : List TaskCall) → without_waits (row_after task_kind opening calls) ≡ row_after task_kind (without_waits opening) calls
shows_nowhere_else opening calls = stays_stripped opening [] calls (begins_stripped opening)

-- ---- beside the scheduled time

-- how long it waited is no less than its scheduled time, which is counted from the last wake alone
abbrev pub Covers : TaskRow → Type 0
Covers row = (row.sched ≤ 2 ^ 64 - 1) × (row.sched ≤ unwrap_or (waited_of row) row.sched)

covered : (o : Option Waits) (sched stretch : ℕ) → sched ≤ 2 ^ 64 - 1 → sched ≤ unwrap_or (option_map (λ n. n.total) o) sched
    → (capped (sched + stretch) ≤ 2 ^ 64 - 1) × (capped (sched + stretch) ≤ unwrap_or (option_map (λ n. n.total) (option_map (with_more stretch) o)) (capped (sched + stretch)))
covered None sched stretch small le = (omega arith, omega arith)
covered (Some n) sched stretch small le = (omega arith, omega arith)

covered_on : (o : Option Waits) (sched stretch : ℕ) → sched ≤ 2 ^ 64 - 1 → sched ≤ unwrap_or (option_map (λ n. n.total) o) sched → sched ≤ unwrap_or (option_map (λ n. n.total) (option_map (with_more stretch) o)) sched
covered_on None sched stretch small le = omega arith
covered_on (Some n) sched stretch small le = omega arith

covered_end : (o : Option Waits) (sched : ℕ) → sched ≤ unwrap_or (option_map (λ n. n.total) o) sched → sched ≤ unwrap_or (option_map (λ n. n.total) (option_map after_end o)) sched
covered_end None sched le = le
covered_end (Some n) sched le = le

-- a start is refused while a poll is open
refused_start : (row : TaskRow) (m : ℕ) → row.polling ≡ true → is_accepted (answer_at task_kind row (PollStart m)) ≡ false
refused_start row m polled = elim (cases_Bool (is_some row.dropped)) [
  | inl closed ↦ rw closed refl
  | inr unclosed ↦ rw (unclosed, polled) refl
]

covers_on : (row : TaskRow) (call : TaskCall) → Covers row → Covers (after task_kind changed row call)
covers_on row (PollStart m) covers = elim (cases_Bool row.polling) [
  | inl polled ↦ neither Covers (is_accepted (answer_at task_kind row (PollStart m))) (changed row (PollStart m)) row (refused_start row m polled) covers
  | inr unpolled ↦ either Covers (is_accepted (answer_at task_kind row (PollStart m))) (changed row (PollStart m)) row (rw unpolled (covered row.waits row.sched (cond row.scheduled (m - waits_since row) 0) covers.0 covers.1)) covers
]
covers_on row (PollEnd m) covers = either Covers (is_accepted (answer_at task_kind row (PollEnd m))) (changed row (PollEnd m)) row (covers.0, covered_end row.waits row.sched covers.1) covers
covers_on row (Close m) covers = either Covers (is_accepted (answer_at task_kind row (Close m))) (changed row (Close m)) row (covers.0, covered_on row.waits row.sched (lasting row m) covers.0 covers.1) covers
covers_on row CloneWaker covers = either Covers (is_accepted (answer_at task_kind row CloneWaker)) (changed row CloneWaker) row covers covers
covers_on row (WakeVal m from_self) covers = (covers.0, covered_on row.waits row.sched (lasting row m) covers.0 covers.1)
covers_on row (WakeRef m from_self) covers = (covers.0, covered_on row.waits row.sched (lasting row m) covers.0 covers.1)
covers_on row Release covers = covers
covers_on row Enlist covers = either Covers (is_accepted (answer_at task_kind row Enlist)) (changed row Enlist) row covers covers
covers_on row Read covers = covers

covers_first : (opening : TaskRow) → Covers (row_after task_kind opening [])
unfolding row_after fold_of row_of sum_of accepted
covers_first opening = elim opening.waits as (λ (o : Option Waits). (0 ≤ 2 ^ 64 - 1) × (0 ≤ unwrap_or (option_map (λ n. n.total) (option_map (λ none. counted_waits opening.created []) o)) 0)) [ None ↦ (omega arith, omega arith) | Some n ↦ (omega arith, omega arith) ]

covers_from : (opening : TaskRow) (before more : List TaskCall) → Covers (row_after task_kind opening before) → Covers (row_after task_kind opening (before ++ more))
covers_from opening before [] covers = rw append-nil covers
covers_from opening before (call ∷ more) covers =
    let one : Covers (row_after task_kind opening (before ++ call ∷ [])) = subst Covers (sym (one_later opening before call)) (covers_on (row_after task_kind opening before) call covers) in
    subst (λ cs. Covers (row_after task_kind opening cs)) (append_assoc before (call ∷ []) more) (covers_from opening (before ++ call ∷ []) more one)

pub covers_scheduled : (opening : TaskRow) (calls : List TaskCall) → Covers (row_after task_kind opening calls)
covers_scheduled opening calls = covers_from opening [] calls (covers_first opening)
