-- The sixteen words of a task's row. Inner: no crate above cites it.
use Rattle.std.specs.Prelude.{ℕ, ◌+◌, ◌*◌, ◌^◌, Bool, true, nat_lt, if◌then◌else◌, List, [], ◌∷◌, Option, Some, None, is_some}
use Rattle.std.specs.Option.{option_map_or}
use Rattle.tk_core.specs.Words.{number_of_bits, word_of}
use Rattle.tk_core.specs.declared.task.row.TaskRow.{TaskRow}
use Rattle.tk_core.specs.declared.task.wait.Waits.{Waits}

-- what is counted of a wait fits above the flags' eight bits
abbrev pub fits : Option Waits → Bool
fits None = true
fits (Some waits) = nat_lt waits.so_far (2 ^ 56)

-- what was counted of the wait that lasts, or 0 where waits are not counted
abbrev pub so_far_of : Option Waits → ℕ
so_far_of waits = option_map_or (λ waits. waits.so_far) waits 0

-- the word of all waits
abbrev pub total_word : Option Waits → ℕ
total_word waits = option_map_or (λ waits. waits.total) waits 0

-- the bits, from bit 0: which moments are present, polling, scheduled, whether waits are counted
abbrev pub bits_of : TaskRow → List Bool
bits_of row = is_some row.dropped ∷ is_some row.first_poll ∷ is_some row.last_started ∷ is_some row.last_ended ∷ is_some row.last_wake ∷ row.polling ∷ row.scheduled ∷ is_some row.waits ∷ []

-- the flags: these bits, and above them what was counted of the wait that lasts
abbrev pub flags_of : TaskRow → ℕ
flags_of row = number_of_bits (bits_of row) + 2 ^ 8 * so_far_of row.waits

-- the words, in order; what is absent has the word 0 and its bit 0. A row with a wait that doesn't fit has none
unfoldable pub words_of : TaskRow → List ℕ
words_of row = if fits row.waits then
    flags_of row ∷ row.created ∷ word_of row.dropped ∷ row.polls
    ∷ word_of row.first_poll ∷ word_of row.last_started ∷ word_of row.last_ended ∷ row.busy
    ∷ row.wakes ∷ row.self_wakes ∷ word_of row.last_wake ∷ row.clones
    ∷ row.drops ∷ row.handles ∷ row.sched ∷ total_word row.waits
    ∷ []
    else []
