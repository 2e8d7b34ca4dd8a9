-- What one more entry does to the row that a history of a task leaves.
use Rattle.std.proofs.Common.{◌≡◌, ℕ, ◌+◌, ◌-◌, ◌^◌, ◌≤◌, max, Bool, true, false, cond, List, [], ◌∷◌, ◌++◌, Option, Some, None, refl, subst, lit≤}
use Rattle.std.specs.Prelude.{unwrap_or, is_some, not, ◌&&◌}
use Rattle.std.specs.Option.{option_or, option_map}
use Rattle.tk_core.specs.Lists.{capped, count_of}
use Rattle.tk_core.specs.Fold.{is_accepted, fold_of, answer_at, Follows}
use Rattle.tk_core.specs.Task.{row_of, task_kind, counted_waits, with_more, waits_since, waits_until, after_end}
use Rattle.tk_core.specs.declared.reply.Reply.{Reply}
use Rattle.tk_core.specs.declared.reply.Reply.TheVariants.{Number}
use Rattle.tk_core.specs.declared.task.row.TaskRow.{TaskRow}
use Rattle.tk_core.specs.declared.task.wait.Waits.{Waits}
use Rattle.tk_core.specs.declared.task.call.TaskCall.{TaskCall}
use Rattle.tk_core.specs.declared.task.call.TaskCall.TheVariants.{PollStart, PollEnd, Close, CloneWaker, WakeVal, WakeRef, Release, Enlist, Read}
use Rattle.tk_core.specs.Laws.Pushed.{pushed, and_true, and_false}
use Rattle.tk_core.specs.Laws.Folded.{after, Grows, follows_from}
use Rattle.tk_core.specs.Laws.Handles.{drawn}

-- a row after an accepted call
abbrev pub changed : TaskRow → TaskCall → TaskRow
changed row (PollStart m) = record row {
  polls = capped (row.polls + 1);
  first_poll = option_or row.first_poll (Some m);
  last_started = Some m;
  sched = capped (row.sched + cond row.scheduled (m - waits_since row) 0);
  waits = waits_until row m;
  polling = true;
  scheduled = false;
}
changed row (PollEnd m) = record row { last_ended = Some m; busy = capped (row.busy + (m - unwrap_or row.last_started m)); waits = option_map after_end row.waits; polling = false }
changed row (Close m) = record row { dropped = Some m; waits = waits_until row m; scheduled = false }
changed row CloneWaker = record row { clones = capped (row.clones + 1); handles = capped (row.handles + 1) }
changed row (WakeVal m from_self) = record row {
  wakes = capped (row.wakes + 1);
  self_wakes = cond from_self (capped (row.self_wakes + 1)) row.self_wakes;
  last_wake = Some (max (unwrap_or row.last_wake 0) m);
  waits = waits_until row m;
  drops = capped (row.drops + 1);
  scheduled = not (is_some row.dropped);
}
changed row (WakeRef m from_self) = record row {
  wakes = capped (row.wakes + 1);
  self_wakes = cond from_self (capped (row.self_wakes + 1)) row.self_wakes;
  last_wake = Some (max (unwrap_or row.last_wake 0) m);
  waits = waits_until row m;
  scheduled = not (is_some row.dropped);
}
changed row Release = record row { drops = capped (row.drops + 1) }
changed row Enlist = record row { handles = capped (row.handles + 1) }
changed row Read = row

-- what is counted of waits, where it is, and one more stretch
abbrev OneMore : Option Waits → ℕ → ℕ → ℕ → Bool → Bool → Type 0
OneMore o total so_far stretch scheduled polling =
    option_map {T = Waits} (λ none. with_more (cond (scheduled && not polling) stretch 0) (record { total = total; so_far = so_far })) o
    ≡ option_map (with_more (cond polling 0 (cond scheduled stretch 0))) (option_map {T = Waits} {U = Waits} (λ none. record { total = total; so_far = so_far }) o)

pub one_more : (o : Option Waits) (total so_far stretch : ℕ) (scheduled polling : Bool) → OneMore o total so_far stretch scheduled polling
one_more None total so_far stretch scheduled polling = refl
one_more (Some n) total so_far stretch scheduled true = rw and_false refl
one_more (Some n) total so_far stretch scheduled false = rw and_true refl

-- and where a poll ends
abbrev OneEnd : Option Waits → ℕ → ℕ → Type 0
OneEnd o total so_far =
    option_map {T = Waits} {U = Waits} (λ none. record { total = total; so_far = 0 }) o
    ≡ option_map after_end (option_map {T = Waits} {U = Waits} (λ none. record { total = total; so_far = so_far }) o)

pub one_end : (so_far : ℕ) (o : Option Waits) (total : ℕ) → OneEnd o total so_far
one_end so_far None total = refl
one_end so_far (Some n) total = refl

-- one more accepted call
changed_by : (opening : TaskRow) (calls : List TaskCall) (call : TaskCall) → row_of opening (calls ++ call ∷ []) ≡ changed (row_of opening calls) call
unfolding row_of
changed_by opening calls (PollStart m) = simp (pushed, one_more)
changed_by opening calls (PollEnd m) = simp (pushed, one_end (counted_waits opening.created calls).so_far)
changed_by opening calls (Close m) = simp (pushed, one_more)
changed_by opening calls CloneWaker = simp pushed
changed_by opening calls (WakeVal m from_self) = simp (pushed, one_more)
changed_by opening calls (WakeRef m from_self) = simp (pushed, one_more)
changed_by opening calls Release = simp pushed
changed_by opening calls Enlist = simp pushed
changed_by opening calls Read = simp pushed

-- what the calls of every legal history keep: at most 2^62 handles are drawn
abbrev pub Holds : TaskRow → List TaskCall → Type 0
Holds opening calls = (row_of opening calls).handles ≤ 2 ^ 62

within : (row : TaskRow) (call : TaskCall) → is_accepted (answer_at task_kind row call) ≡ true → row.handles ≤ 2 ^ 62 → (changed row call).handles ≤ 2 ^ 62
within row (PollStart m) accepts le = le
within row (PollEnd m) accepts le = le
within row (Close m) accepts le = le
within row CloneWaker accepts le = drawn row.handles (Number (row.handles + 1)) accepts le
within row (WakeVal m from_self) accepts le = le
within row (WakeRef m from_self) accepts le = le
within row Release accepts le = le
within row Enlist accepts le = drawn row.handles (Number (row.handles + 1)) accepts le
within row Read accepts le = le

pub grows : (opening : TaskRow) → Grows task_kind changed (Holds opening) opening
grows opening calls call holds accepts =
    let e = changed_by opening calls call in
    (e, rw e (within (row_of opening calls) call accepts holds))

pub none : (opening : TaskRow) → Holds opening []
unfolding row_of count_of
none opening = lit≤ tt

-- a row that is changed as its answer says follows it
pub follows : (row : TaskRow) (call : TaskCall) (next : TaskRow × Reply TaskRow) → (row.handles ≤ 2 ^ 62 → next ≡ (after task_kind changed row call, answer_at task_kind row call)) → Follows task_kind row call next
unfolding fold_of
follows row call next e opening h caller answered is_fold =
    follows_from task_kind changed opening (Holds opening) (grows opening) (none opening) row call next h caller answered is_fold (λ holds. e (subst (λ (r : TaskRow). r.handles ≤ 2 ^ 62) is_fold holds))
