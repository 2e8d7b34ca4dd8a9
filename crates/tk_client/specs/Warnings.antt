-- Which warnings tables have. Their names are tokio-console's; when each holds is this project's own choice.
use Rattle.std.specs.Prelude.{ℕ, ◌-◌, ◌*◌, ◌==◌, List, [], ◌∷◌, ◌++◌, Bool, true, false, ◌&&◌, not, nat_lt, nat_le, is_some, if◌then◌else◌}
use Rattle.std.specs.List.{flat_map}
use Rattle.std.specs.Option.{option_map_or}
use Rattle.tk_core.specs.declared.task.row.TaskRow.{TaskRow}
use Rattle.tk_ids.specs.declared.spec.TaskKind.{TaskKind}
use Rattle.tk_ids.specs.declared.spec.TaskKind.TheVariants.{Spawn, Blocking}
use Rattle.tk_stream.specs.declared.tables.task.Task.{Task}
use Rattle.tk_stream.specs.Tables.{TablesView}
use Rattle.tk_client.specs.declared.warning.Warning.{Warning}
use Rattle.tk_client.specs.declared.warning.WarningKind.{WarningKind}
use Rattle.tk_client.specs.declared.warning.WarningKind.TheVariants.{SelfWakes, LostWaker, NeverYielded}

-- how much is too much: a percentage of self-wakes, and a time in nanoseconds
pub record LintsView : Type 0 where
  pub self_wake_percent : ℕ
  pub never_yielded_ns : ℕ

-- the lints where nothing is said
abbrev pub default_lints : LintsView
default_lints = record { self_wake_percent = 50; never_yielded_ns = 1000000000 }

-- more than so many of a hundred wakes came from within the task. It takes at least one wake
abbrev pub wakes_itself : ℕ → TaskRow → Bool
wakes_itself percent x = nat_lt 0 x.wakes && nat_lt (percent * x.wakes) (100 * x.self_wakes)

-- nobody will wake the task: it is open, not being polled, not scheduled, and has no waker left
abbrev pub has_lost_waker : TaskRow → Bool
has_lost_waker x = not (is_some x.dropped) && (not x.polling && (not x.scheduled && x.clones == x.drops))

-- the task is in its first poll, which started at least so long ago
abbrev pub has_never_yielded : ℕ → ℕ → TaskRow → Bool
has_never_yielded limit now x = x.polling && (x.polls == 1 && option_map_or (λ started. nat_le limit (now - started)) x.last_started false)

-- only tasks of kind spawn are warned of
abbrev pub is_spawn : TaskKind → Bool
is_spawn Spawn = true
is_spawn Blocking = false

-- a warning where it holds
abbrev pub warning_if : Bool → ℕ → WarningKind → List Warning
warning_if holds id kind = if holds then record { task = id; kind = kind } ∷ [] else []

-- the warnings of one task, in this order
abbrev pub warnings_of : LintsView → ℕ → Task → List Warning
warnings_of lints now t =
    if is_spawn t.info.kind then
    warning_if (wakes_itself lints.self_wake_percent t.row) t.info.id SelfWakes
    ++ (warning_if (has_lost_waker t.row) t.info.id LostWaker
    ++ warning_if (has_never_yielded lints.never_yielded_ns now t.row) t.info.id NeverYielded)
    else []

-- the warnings of tables: those of each task, in table order
abbrev pub warnings_in : LintsView → TablesView → List Warning
warnings_in lints tables = flat_map (warnings_of lints tables.now) tables.tasks
