-- What a history of a task means: its row, which is tokio-console's task statistics, and the answer to a further call.
use Rattle.std.specs.Prelude.{◌≡◌, ℕ, ◌+◌, ◌-◌, ◌^◌, min, max, Bool, true, false, not, ◌&&◌, ◌||◌, ◌==◌, if◌then◌else◌, List, Option, Some, None, unwrap_or, is_some}
use Rattle.std.specs.Option.{option_map, option_map_or}
use Rattle.tk_core.specs.Lists.{capped, any_of, any_since, count_of, first_of, last_of, greatest_of, sum_of, sum_since}
use Rattle.tk_core.specs.Polls.{is_start, is_polling, run_time}
use Rattle.tk_core.specs.Fold.{Kind}
use Rattle.tk_core.specs.declared.reply.Refusal.{Refusal}
use Rattle.tk_core.specs.declared.reply.Refusal.TheVariants as refusals
use Rattle.tk_core.specs.declared.reply.WakeReply.{WakeReply}
use Rattle.tk_core.specs.declared.reply.WakeReply.TheVariants as woken
use Rattle.tk_core.specs.declared.reply.Reply.{Reply}
use Rattle.tk_core.specs.declared.reply.Reply.TheVariants.{Done, Number, Woken, Shown}
use Rattle.tk_core.specs.declared.task.row.TaskRow.{TaskRow}
use Rattle.tk_core.specs.declared.task.wait.Waits.{Waits}
use Rattle.tk_core.specs.declared.task.call.TaskCall.{TaskCall}
use Rattle.tk_core.specs.declared.task.call.TaskCall.TheVariants.{PollStart, PollEnd, Close, CloneWaker, WakeVal, WakeRef, Release, Enlist, Read}

-- ---- what a call says

-- the moment of a start of a poll
abbrev pub start_at : TaskCall → Option ℕ
start_at (PollStart m) = Some m
start_at _ = None

-- the moment of an end of a poll
abbrev pub end_at : TaskCall → Option ℕ
end_at (PollEnd m) = Some m
end_at _ = None

-- the moment of a close
abbrev pub close_at : TaskCall → Option ℕ
close_at (Close m) = Some m
close_at _ = None

-- the moment of a wake, be it by value or by reference
abbrev pub wake_at : TaskCall → Option ℕ
wake_at (WakeVal m from_self) = Some m
wake_at (WakeRef m from_self) = Some m
wake_at _ = None

-- up to when a task that waits has waited, as a call on it says: the moment of a start of a poll, of a wake, or of a close
abbrev pub waits_to : TaskCall → Option ℕ
waits_to (PollStart m) = Some m
waits_to (WakeVal m from_self) = Some m
waits_to (WakeRef m from_self) = Some m
waits_to (Close m) = Some m
waits_to _ = None

-- a wake counts wherever it found the task
abbrev pub is_wake : TaskCall → Bool
is_wake call = is_some (wake_at call)

-- a wake of a task from within that task
abbrev pub is_self_wake : TaskCall → Bool
is_self_wake (WakeVal m from_self) = from_self
is_self_wake (WakeRef m from_self) = from_self
is_self_wake _ = false

-- a waker is cloned
abbrev pub is_clone : TaskCall → Bool
is_clone CloneWaker = true
is_clone _ = false

-- a waker is dropped; a wake by value uses its waker up, so it is one wake and one drop
abbrev pub is_drop : TaskCall → Bool
is_drop (WakeVal m from_self) = true
is_drop Release = true
is_drop _ = false

-- a call that draws a handle: a waker, or an inspector
abbrev pub draws_handle : TaskCall → Bool
draws_handle CloneWaker = true
draws_handle Enlist = true
draws_handle _ = false

-- ---- states and sums, of the accepted calls

-- scheduled: not closed, and either no poll was started or a wake comes after the last start
abbrev pub is_scheduled : List TaskCall → Bool
is_scheduled calls = not (is_some (last_of close_at calls)) && (not (any_of (is_start start_at end_at) calls) || any_since is_wake (is_start start_at end_at) calls)

-- since when a task may have waited for a poll: the greatest of its creation, the wakes, and the last end of a poll
abbrev pub ready_since : ℕ → List TaskCall → ℕ
ready_since created before = max created (max (unwrap_or (greatest_of wake_at before) 0) (unwrap_or (last_of end_at before) 0))

-- how long a task that was scheduled had waited when a poll started, at least 0
abbrev pub wait_time : ℕ → List TaskCall → TaskCall → ℕ
wait_time created before (PollStart m) = if is_scheduled before then m - ready_since created before else 0
wait_time created before _ = 0

-- waiting for a poll: scheduled, and not polled
abbrev pub is_waiting : List TaskCall → Bool
is_waiting calls = is_scheduled calls && not (is_polling start_at end_at calls)

-- how much longer a task that waits had waited when it was woken again, a poll started, or it was closed, at least 0: each stretch from the greatest moment before to the call's
abbrev pub stretch_time : ℕ → List TaskCall → TaskCall → ℕ
stretch_time created before call = option_map_or (λ m. if is_waiting before then m - ready_since created before else 0) (waits_to call) 0

-- a single wait is counted up to 2^56 - 1, which are 2.2 years
abbrev pub capped_wait : ℕ → ℕ
capped_wait n = min n (2 ^ 56 - 1)

-- an end of a poll
abbrev pub ends_poll : TaskCall → Bool
ends_poll call = is_some (end_at call)

-- what is counted of a task's waits: all of its stretches; and those of its last wait, which are the ones since the last end of a poll
abbrev pub counted_waits : ℕ → List TaskCall → Waits
counted_waits created calls = record { total = sum_of (stretch_time created) calls; so_far = sum_since (stretch_time created) ends_poll (2 ^ 56 - 1) calls }

-- the row that accepted calls leave; its waits are counted where the opening row counts them
unfoldable pub row_of : TaskRow → List TaskCall → TaskRow
row_of opening calls = record {
  created = opening.created;
  dropped = last_of close_at calls;
  polls = count_of (is_start start_at end_at) calls;
  first_poll = first_of start_at calls;
  last_started = last_of start_at calls;
  last_ended = last_of end_at calls;
  busy = sum_of (run_time start_at end_at) calls;
  wakes = count_of is_wake calls;
  self_wakes = count_of is_self_wake calls;
  last_wake = greatest_of wake_at calls;
  clones = count_of is_clone calls;
  drops = count_of is_drop calls;
  handles = count_of draws_handle calls;
  sched = sum_of (wait_time opening.created) calls;
  waits = option_map (λ none. counted_waits opening.created calls) opening.waits;
  polling = is_polling start_at end_at calls;
  scheduled = is_scheduled calls;
}

-- since when the task of a row may have waited: the greatest of its creation, its wakes, and the last end of a poll
abbrev pub waits_since : TaskRow → ℕ
waits_since row = max row.created (max (unwrap_or row.last_wake 0) (unwrap_or row.last_ended 0))

-- how much longer it has waited at a moment, where it waits
abbrev pub lasting : TaskRow → ℕ → ℕ
lasting row now = if row.polling then 0 else if row.scheduled then now - waits_since row else 0

-- what is counted of waits, with what lasts
abbrev pub with_more : ℕ → Waits → Waits
with_more lasts waits = record { total = capped (waits.total + lasts); so_far = capped_wait (waits.so_far + lasts) }

-- what is counted of its waits, where they are, with what lasts up to a moment
abbrev pub waits_until : TaskRow → ℕ → Option Waits
waits_until row now = option_map (with_more (lasting row now)) row.waits

-- what is left of that after an end of a poll: nothing of the wait before that poll
abbrev pub after_end : Waits → Waits
after_end waits = record waits { so_far = 0 }

-- how long it has waited in all, where that is counted, up to its last start, wake or close
abbrev pub waited_of : TaskRow → Option ℕ
waited_of row = option_map (λ waits. waits.total) row.waits

-- and with what lasts up to a moment
abbrev pub waited_until : TaskRow → ℕ → Option ℕ
waited_until row now = option_map (λ waits. waits.total) (waits_until row now)

-- a task that waits for a poll, by its row: scheduled, not polled and not closed
abbrev pub awaits_poll : TaskRow → Bool
awaits_poll row = row.scheduled && not row.polling && not (is_some row.dropped)

-- since when a task that waits has waited, where that is counted: before the last of its moments by what was counted of this wait
abbrev pub waiting_since : TaskRow → Option ℕ
waiting_since row = if awaits_poll row then option_map (λ waits. waits_since row - waits.so_far) row.waits else None

-- how long a task that waits has waited at a moment, where that is counted: the wait that a start of a poll would end then, at most 2^56 - 1
abbrev pub wait_ended_by : TaskRow → ℕ → Option ℕ
wait_ended_by row now = if awaits_poll row then option_map (λ waits. waits.so_far) (waits_until row now) else None

-- no wait was counted yet
abbrev pub no_waits : Waits
no_waits = record { total = 0; so_far = 0 }

-- the row before any call, of a task whose waits are not counted
abbrev pub opening_row : ℕ → TaskRow
opening_row created = record { created = created; dropped = None; polls = 0; first_poll = None; last_started = None; last_ended = None; busy = 0; wakes = 0; self_wakes = 0; last_wake = None; clones = 0; drops = 0; handles = 0; sched = 0; waits = None; polling = false; scheduled = true }

-- and of one whose waits are counted
abbrev pub counting_row : ℕ → TaskRow
counting_row created = record (opening_row created) { waits = Some no_waits }

-- ---- the answer

-- calls that a closed task refuses
abbrev pub wants_open : TaskCall → Bool
wants_open (PollStart m) = true
wants_open (PollEnd m) = true
wants_open (Close m) = true
wants_open _ = false

-- calls that a task refuses while it is polled
abbrev pub wants_idle : TaskCall → Bool
wants_idle (PollStart m) = true
wants_idle (Close m) = true
wants_idle _ = false

-- the call that a task refuses while it is not polled
abbrev pub wants_polling : TaskCall → Bool
wants_polling (PollEnd m) = true
wants_polling _ = false

-- the first refusal that applies
abbrev pub refusal_of : TaskRow → TaskCall → Option Refusal
refusal_of row call =
    if wants_open call && is_some row.dropped then Some refusals.Closed
    else if wants_idle call && row.polling then Some refusals.AlreadyPolling
    else if wants_polling call && not row.polling then Some refusals.NotPolling
    else if draws_handle call && row.handles == 2 ^ 62 then Some refusals.HandlesSpent
    else None

-- what a wake finds: nothing left to wake, a task that is scheduled already, or one that it schedules
abbrev pub found_by_wake : TaskRow → WakeReply
found_by_wake row = if is_some row.dropped then woken.Gone else if row.scheduled then woken.Already else woken.Scheduled

-- the reply where nothing is refused
abbrev pub reply_of : TaskRow → TaskCall → Reply TaskRow
reply_of row CloneWaker = Number (row.handles + 1)
reply_of row Enlist = Number (row.handles + 1)
reply_of row Read = Shown row
reply_of row (WakeVal m from_self) = Woken (found_by_wake row)
reply_of row (WakeRef m from_self) = Woken (found_by_wake row)
reply_of row (PollStart m) = Done
reply_of row (PollEnd m) = Done
reply_of row (Close m) = Done
reply_of row Release = Done

-- what a task is
abbrev pub task_kind : Kind TaskRow TaskCall
task_kind = record { row_of = row_of; refusal_of = refusal_of; reply_of = reply_of }

-- ---- callers

-- an opening row is that of its creation, with no wait where waits are counted
abbrev pub IsOpening : TaskRow → Type 0
IsOpening row = row ≡ record (opening_row row.created) { waits = option_map (λ waits. no_waits) row.waits }

-- the owner makes every call but those that use a waker up
abbrev pub owner_may : TaskCall → Bool
owner_may (WakeVal m from_self) = false
owner_may Release = false
owner_may _ = true

-- a waker clones, wakes and is released
abbrev pub waker_may : TaskCall → Bool
waker_may CloneWaker = true
waker_may (WakeVal m from_self) = true
waker_may (WakeRef m from_self) = true
waker_may Release = true
waker_may _ = false

-- an inspector enlists further inspectors and reads
abbrev pub inspector_may : TaskCall → Bool
inspector_may Enlist = true
inspector_may Read = true
inspector_may _ = false

-- what the caller may do whose number a call drew
abbrev pub made_may : TaskCall → TaskCall → Bool
made_may CloneWaker call = waker_may call
made_may Enlist call = inspector_may call
made_may _ call = false

-- a waker's last calls: a wake by value and a release
abbrev pub is_last : TaskCall → Bool
is_last call = is_drop call
