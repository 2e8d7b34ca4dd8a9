-- One item more of a walk. Inner: no public clause cites these.
use Rattle.std.specs.Prelude.{◌+◌, ℕ, List, take, fold, is_some, Bool, Option, Some, None, if◌then◌else◌}
use Rattle.tk_core.specs.declared.task.row.TaskRow.{TaskRow}
use Rattle.tk_stream.specs.declared.tables.task.Task.{Task}
use Rattle.tk_screen.specs.Rankings.{ranked_in}
use Rattle.tk_screen.specs.declared.top.Ranked.{Ranked}
use Rattle.tk_frame.specs.declared.ranks.States.{States}

-- what is kept with one item more, where it has a key
abbrev pub kept_with : Option ℕ → ℕ → ℕ → List Ranked → List Ranked
kept_with None place room items = items
kept_with (Some key) place room items = take room (ranked_in (record { key = key; place = place }) items)

-- counts with one task more
abbrev pub and_task : States → TaskRow → States
and_task states x =
    if is_some x.dropped then record states { closed = states.closed + 1 } else
    (if x.polling then record states { polling = states.polling + 1 } else
    (if x.scheduled then record states { scheduled = states.scheduled + 1 } else record states { idle = states.idle + 1 }))

-- of how many it held, with one item more
abbrev pub counted_with : {X : Type 0} → (X → Bool) → ℕ → X → ℕ
counted_with p count x = if p x then count + 1 else count

abbrev pub states_with : States → Task → States
states_with states t = and_task states t.row

abbrev pub no_states : States
no_states = record { polling = 0; scheduled = 0; idle = 0; closed = 0 }

-- the tasks counted one by one
abbrev pub tally : List Task → States
tally tasks = fold states_with no_states tasks

-- how many tasks were counted
abbrev pub total : States → ℕ
total states = states.polling + states.scheduled + states.idle + states.closed
