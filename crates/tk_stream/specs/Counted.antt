-- What is counted of a task's waits, by the numbers that a line tells. Inner: no crate above cites it.
use Rattle.std.specs.Prelude.{ℕ, Option, option_map}
use Rattle.tk_core.specs.declared.task.wait.Waits.{Waits}

-- how long it waited in all, and the wait that lasts
abbrev pub waits_with : Option (ℕ × ℕ) → Option Waits
waits_with numbers = option_map (λ n. record { total = n.0; so_far = n.1 }) numbers
