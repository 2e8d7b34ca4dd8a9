-- What the lines of a stream show of how long polls ran, which need no histogram for it.
use Rattle.std.specs.Prelude.{ℕ, max, nat_le, not, Bool, ◌&&◌, List, ◌∷◌, [], ◌++◌, fold, replicate, None, IsSome, is_some, if◌then◌else◌}
use Rattle.std.specs.List.{list_any}
use Rattle.std.specs.Option.{option_map_or}
use Rattle.tk_core.specs.Lasting.{runs_for}
use Rattle.tk_core.specs.declared.task.row.TaskRow.{TaskRow}
use Rattle.tk_stream.specs.Tables.{TablesView, item_with, task_with}
use Rattle.tk_stream.specs.Times.{TaskTimes, times_id}
use Rattle.tk_stream.specs.declared.tables.task.Task.{Task}
use Rattle.tk_stream.specs.declared.tables.times.PollTimes.{PollTimes}
use Rattle.tk_client.specs.Warnings.{is_spawn}
use Rattle.tk_report.specs.Runs.{ended_of, ended_run, none_ended}
use Rattle.tk_report.specs.declared.known.Known.{Known}

-- ---- line by line

-- nothing is known of a task
abbrev pub unknown : Known
unknown = record { ended = none_ended; longest = 0 }

-- what is known of a task after a line at this moment, in which it has this row: its longest poll is at least as long as that so far, as the one that is
-- open has run, and as one that ended since the line before
abbrev pub known_after : ℕ → Known → TaskRow → Known
known_after now known x = record {
  ended = ended_of x;
  longest = max known.longest (max (runs_for x now) (ended_run known.ended x));
}

-- what is known of the task with an id after a line more. Of one that isn't in its tables nothing is
abbrev pub known_more : ℕ → Known → TablesView → Known
known_more id known tables = option_map_or (λ (t : Task). known_after tables.now known t.row) (task_with id tables.tasks) unknown

-- what is known of it by the tables after each line
abbrev pub known_of : ℕ → List TablesView → Known
known_of id shown = fold (known_more id) unknown shown

-- how long its longest poll is known to have run, at least
abbrev pub longest_known : List TablesView → ℕ → ℕ
longest_known shown id = (known_of id shown).longest

-- the task with an id is in each of these tables
abbrev pub StaysIn : ℕ → List TablesView → Type 0
StaysIn id [] = Unit {0}
StaysIn id (tables ∷ after) = IsSome (task_with id tables.tasks) × StaysIn id after

-- ---- in place of histograms

-- a histogram of which nothing but the longest time is known
abbrev pub times_known : ℕ → PollTimes
times_known longest = record { longest = longest; counts = replicate 14 0; waits = None }

-- whether a task has a histogram among these
abbrev pub is_timed : List TaskTimes → Task → Bool
is_timed times t = is_some (item_with times_id t.info.id times)

-- histograms, and where a task has none such a one of it, by how long polls of each id are known to have run
abbrev pub with_known : (ℕ → ℕ) → List TaskTimes → Task → List TaskTimes
with_known longest times t = if is_timed times t then times else times ++ (t.info.id, times_known (longest t.info.id)) ∷ []

-- the same for each task
abbrev pub completed : (ℕ → ℕ) → List Task → List TaskTimes → List TaskTimes
completed longest tasks times = fold (with_known longest) times tasks

-- a task that may be warned of has no histogram, though a poll of it has ended
abbrev pub is_untimed : List TaskTimes → Task → Bool
is_untimed times t = is_spawn t.info.kind && (nat_le 1 (ended_of t.row).polls && not (is_timed times t))

-- some task has none
abbrev pub are_untimed : TablesView → List TaskTimes → Bool
are_untimed tables times = list_any (is_untimed times) tables.tasks
