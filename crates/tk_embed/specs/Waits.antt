-- The histogram of a task's waits, where its row stands beside the task's.
use Rattle.std.specs.Prelude.{◌≡◌, ℕ, List, [], ◌∷◌, ◌++◌, map, Option, None}
use Rattle.std.specs.List.{filter_map}
use Rattle.tk_core.specs.declared.task.call.TaskCall.{TaskCall}
use Rattle.tk_core.specs.declared.task.call.TaskCall.TheVariants.{PollStart}
use Rattle.tk_core.specs.declared.task.row.TaskRow.{TaskRow}
use Rattle.tk_core.specs.declared.times.call.TimesCall.TheVariants.{Add}
use Rattle.tk_core.specs.Lists.{each_with_before}
use Rattle.tk_core.specs.Task.{row_of, wait_ended_by}
use Rattle.tk_core.specs.TaskMeaning.{task_meaning}
use Rattle.tk_core.specs.Times.{opening_row}
use Rattle.tk_core.specs.TimesMeaning.{times_meaning}
use Rattle.tk_embed.specs.Timed.{accepted_of}

-- how long the whole wait took that a call ends: that of a start of a poll, where the task waited for one and its waits are counted
abbrev pub wait_at : TaskRow → List TaskCall → TaskCall → Option ℕ
wait_at opening before (PollStart m) = wait_ended_by (row_of opening before) m
wait_at opening before _ = None

-- how long the waits took that these calls end, in the order of their ends
unfoldable pub waits_of : TaskRow → List TaskCall → List ℕ
waits_of opening calls = filter_map (λ p. wait_at opening p.0 p.1) (each_with_before calls)

-- a row's words are those of the histogram of all waits that ended by these calls on a task: each one's time was added, once and in order
abbrev pub AreWaitsOf : TaskRow → List TaskCall → List ℕ → Type 0
AreWaitsOf opening calls waits = waits ≡ times_meaning.words (times_meaning.row_after opening_row (map Add (waits_of opening (accepted_of opening calls))))

-- a call on a task: from whatever calls its words come, if the words beside them were those of the histogram of all its waits, so they are after it
abbrev pub StayWaits : List ℕ → TaskCall → List ℕ → List ℕ → Type 0
StayWaits words call old new = (opening : TaskRow) (calls : List TaskCall) → task_meaning.IsOpening opening → words ≡ task_meaning.words (task_meaning.row_after opening calls)
    → AreWaitsOf opening calls old → AreWaitsOf opening (calls ++ call ∷ []) new
