-- When one task ran, and another waited.
use Rattle.std.specs.Prelude.{ℕ, ◌-◌, ◌==◌, min, nat_le, Bool, false, ◌&&◌, ◌||◌, not, Option, Some, None, if◌then◌else◌, unwrap_or}
use Rattle.std.specs.Option.{option_and_then, option_map_or}
use Rattle.tk_core.specs.Lasting.{waits_for}
use Rattle.tk_core.specs.declared.task.row.TaskRow.{TaskRow}
use Rattle.tk_odd.specs.declared.apart.Stretch.{Stretch}
use Rattle.tk_odd.specs.declared.moved.Moved.{Moved}

-- no time lies in both
abbrev pub lie_apart : Stretch → Stretch → Bool
lie_apart a b = nat_le a.to b.from || nat_le b.to a.from

-- when the last poll of a task ran that started then: up to its end, or to this moment where it runs
abbrev pub last_poll : ℕ → TaskRow → ℕ → Stretch
last_poll now x started = record { from = started; to = if x.polling then now else unwrap_or x.last_ended started }

-- the poll in which a task ran all that it ran in a step that ends now, if there is one
abbrev pub only_run : ℕ → Moved → Option Stretch
only_run now x =
    option_and_then (λ started. if nat_le x.gain.ran ((last_poll now x.row started).to - started) then Some (last_poll now x.row started) else None) x.row.last_started

-- what a task waits at the end of a step, of what it waited in it
abbrev pub still_waited : ℕ → Moved → ℕ
still_waited now y = min y.gain.waited (waits_for y.row now)

-- when the only poll of a task started
abbrev pub poll_start : Moved → ℕ
poll_start y = unwrap_or y.row.last_started 0

-- what a task waits at the end of a step lies outside of a stretch
abbrev pub waits_apart : ℕ → Moved → Stretch → Bool
waits_apart now y s = still_waited now y == 0 || lie_apart s (record { from = now - still_waited now y; to = now })

-- what it waited before lies outside, too: that was right before its only poll
abbrev pub waited_apart : ℕ → Moved → Stretch → Bool
waited_apart now y s =
    y.gain.waited - still_waited now y == 0
    || (y.gain.polls == 1 && lie_apart s (record { from = poll_start y - (y.gain.waited - still_waited now y); to = poll_start y }))

-- all that a task waited in a step is known to lie outside of a stretch: it was polled once at most, and waited before that poll, and at the end
abbrev pub is_outside : ℕ → Moved → Stretch → Bool
is_outside now y s = nat_le y.gain.polls 1 && (waits_apart now y s && waited_apart now y s)

-- another task waited, and what it waited is known to lie apart from what this one ran
abbrev pub is_apart : ℕ → Moved → Moved → Bool
is_apart now x y = not (x.task == y.task) && option_map_or (is_outside now y) (only_run now x) false
