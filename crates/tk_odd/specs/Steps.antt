-- What is said of a step, besides what tasks are charged with.
use Rattle.std.specs.Prelude.{ℕ, ◌+◌, ◌-◌, ◌*◌, ◌==◌, nat_le, max, Bool, false, ◌&&◌, not, List, sum_by, if◌then◌else◌}
use Rattle.std.specs.List.{list_any}
use Rattle.std.specs.Option.{option_map_or}
use Rattle.tk_core.specs.Lists.{capped}
use Rattle.tk_core.specs.Lasting.{waits_for}
use Rattle.tk_odd.specs.declared.free.Free.{Free}
use Rattle.tk_odd.specs.declared.moved.Moved.{Moved}
use Rattle.tk_odd.specs.Charging.{queued}
use Rattle.tk_odd.specs.Gains.{waits}
use Rattle.tk_odd.specs.Sharing.{all_ran}
use Rattle.tk_odd.specs.Waiters.{WaitersView, waiter}

-- ---- everything stands still

-- how many polls started in a step
abbrev pub all_polls : List Moved → ℕ
all_polls moved = sum_by (λ x. x.gain.polls) moved

-- no task had a long poll in a step
abbrev pub is_free : ℕ → List Moved → Bool
is_free long moved = not (list_any (λ x. nat_le long x.gain.longest) moved)

-- for how long no task was polled, with a free step more
abbrev pub lull_after : ℕ → ℕ → ℕ → ℕ
lull_after time polls lull = if polls == 0 then capped (lull + time) else 0

-- free steps, and one more, in which so many polls started
abbrev pub with_free : ℕ → ℕ → Free → Free
with_free time polls f = record {
  polls = capped (f.polls + polls);
  time = capped (f.time + time);
  lull = lull_after time polls f.lull;
  longest = max f.longest (lull_after time polls f.lull);
}

-- free steps after a step, which may be free
abbrev pub free_after : ℕ → ℕ → List Moved → Free → Free
free_after long time moved f = if is_free long moved then with_free time (all_polls moved) f else f

-- everything stood still while a task ran: a poll of it was a long one, no other task was polled, for twice as long as ever in free steps, and by
-- the rate of these ten polls would have started
abbrev pub stood_still : ℕ → Free → List Moved → Moved → Bool
stood_still long f moved x =
    nat_le long x.gain.longest
    && (all_polls moved == x.gain.polls
    && (nat_le (2 * f.longest + 1) x.gain.ran && (nat_le 1 f.time && nat_le (10 * f.time) (x.gain.ran * f.polls))))

-- ---- who is passed over

-- a task waited at the begin of a step, and had done so for so long
abbrev pub waited_for : WaitersView → ℕ → ℕ → Bool
waited_for first wait id = option_map_or (λ x. nat_le wait (waits_for x first.moment)) (waiter first id) false

-- a task was polled that didn't wait at the begin of the step
abbrev pub overtakes : WaitersView → List Moved → Bool
overtakes first moved = list_any (λ x. nat_le 1 x.gain.polls && not (waited_for first 0 x.task)) moved

-- a task had waited for so long at the begin of the step, still waits, and wasn't polled, while one was that came later
abbrev pub is_passed : ℕ → WaitersView → List Moved → Moved → Bool
is_passed wait first moved x = overtakes first moved && (x.gain.polls == 0 && (waits x.row && waited_for first wait x.task))

-- what those waited who were passed over
abbrev pub passed_time : ℕ → WaitersView → List Moved → ℕ
passed_time wait first moved = sum_by (λ x. if is_passed wait first moved x then x.gain.waited else 0) moved

-- ---- what no task is to blame for

-- tasks waited in the queue as long as a long poll for each poll, those left out who were passed over
abbrev pub is_overloaded : ℕ → ℕ → ℕ → ℕ → WaitersView → List Moved → Bool
is_overloaded long wait time now first moved =
    nat_le (long * max (all_polls moved) 1) (queued long time now moved - passed_time wait first moved)

-- a task waited so much longer than all others ran, and wasn't passed over
abbrev pub is_left_alone : ℕ → ℕ → WaitersView → List Moved → Moved → Bool
is_left_alone long wait first moved x =
    nat_le (long + (all_ran moved - x.gain.ran)) x.gain.waited && not (is_passed wait first moved x)

-- that holds of a task
abbrev pub are_left_alone : ℕ → ℕ → WaitersView → List Moved → Bool
are_left_alone long wait first moved = list_any (is_left_alone long wait first moved) moved
