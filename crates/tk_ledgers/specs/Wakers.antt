-- The wakers of a task, and which of them are live.
use Rattle.std.specs.Prelude.{◌≡◌, ℕ, ◌+◌, List, Option, None, not, filter, length, if◌then◌else◌}
use Rattle.std.specs.List.{filter_map}
use Rattle.tk_core.specs.declared.history.Entry.{Entry}
use Rattle.tk_core.specs.declared.reply.Reply.{Reply}
use Rattle.tk_core.specs.declared.task.call.TaskCall.{TaskCall}
use Rattle.tk_core.specs.declared.task.row.TaskRow.{TaskRow}
use Rattle.tk_core.specs.Fold.{number_of}
use Rattle.tk_core.specs.Legal.{has_ended}
use Rattle.tk_core.specs.Task.{is_clone, is_drop}
use Rattle.tk_core.specs.TaskMeaning.{task_meaning}
use Rattle.tk_ledgers.specs.Sums.{tally}
use Rattle.tk_ledgers.specs.Tasks.{TaskEntries}

-- the number that an entry gave a new waker, if it gave one
abbrev pub new_waker : Entry TaskCall (Reply TaskRow) → Option ℕ
new_waker e = if is_clone e.call then number_of e.reply else None

-- the wakers that were made, by their numbers
abbrev pub wakers : TaskEntries → List ℕ
wakers h = filter_map new_waker h

-- the live wakers: those without a wake by value and without a release
abbrev pub live_wakers : TaskEntries → List ℕ
live_wakers h = filter (λ n. not (has_ended task_meaning h n)) (wakers h)

-- clones minus drops is the number of live wakers
abbrev pub ClonesLessDropsAreLive : TaskEntries → Type 0
ClonesLessDropsAreLive h = tally is_clone h ≡ tally is_drop h + length (live_wakers h)
