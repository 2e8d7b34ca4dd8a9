-- The histograms of a stream's tasks by place, those of tasks that have left among them.
use Rattle.std.specs.Prelude.{◌≡◌, ℕ, List, [], ◌∷◌, ◌++◌, map, Bool, Option, Some, None, option_map, if◌then◌else◌}
use Rattle.tk_stream.specs.Tables.{TablesView, item_with}
use Rattle.tk_stream.specs.Times.{TaskTimes, times_id}
use Rattle.tk_stream.specs.declared.tables.task.Task.{Task}
use Rattle.tk_stream.specs.declared.tables.times.PollTimes.{PollTimes}
use Rattle.tk_client.specs.Changes.{Timed, left_as, tasks_beside, untimed}
use Rattle.tk_client.specs.declared.change.LeftTask.{LeftTask}
use Rattle.tk_series.specs.Limited.{LimitedView, limited}
use Rattle.tk_odd.specs.Places.{place_of}
use Rattle.tk_sites.specs.Site.{room}
use Rattle.tk_sites.specs.Times.{plus_times, times_of, untold}
use Rattle.tk_sites.specs.declared.times.SiteTimes.{SiteTimes}

-- a task's histograms, where it has any among these
abbrev pub times_with : List TaskTimes → ℕ → Option PollTimes
times_with times id = option_map (λ (t : TaskTimes). t.1) (item_with times_id id times)

-- what a place has of a task that came, of one that left, and of one that is there
abbrev pub came_times : Task → List ℕ × SiteTimes
came_times t = (place_of t.info, untold)

abbrev pub left_times : LeftTask → List ℕ × SiteTimes
left_times left = (place_of left.task.info, times_of left.times)

abbrev pub there_times : List TaskTimes → Task → List ℕ × SiteTimes
there_times times t = (place_of t.info, times_of (times_with times t.info.id))

-- the tasks that left from tables and histograms to the next, each as it was last shown
abbrev pub who_left : Timed → Timed → List LeftTask
who_left old new = map (left_as old.1) (tasks_beside old.0 new.0)

-- what came and left from tables and histograms to the next
abbrev pub timed_changes : Timed → Timed → List (List ℕ × SiteTimes)
timed_changes old new = map came_times (tasks_beside new.0 old.0) ++ map left_times (who_left old new)

-- what came and left since these, line by line
abbrev pub timed_changes_since : Timed → List Timed → List (List ℕ × SiteTimes)
timed_changes_since old [] = []
timed_changes_since old (new ∷ seen) = timed_changes old new ++ timed_changes_since new seen

-- the histograms of places after these lines, which have led to these tables and histograms: those of tasks that left, as they were last shown,
-- and of those that are there. Places stand as those of sums do: in the order in which a first task of each came, and past the room that there is, all are one
abbrev pub timed_sites : List Timed → TablesView → List TaskTimes → LimitedView SiteTimes
timed_sites seen tables times = limited room plus_times (timed_changes_since untimed seen ++ map (there_times times) tables.tasks)

-- the same where they are shown, and else nothing
abbrev pub shown_times : Bool → List Timed → TablesView → List TaskTimes → Option (LimitedView SiteTimes)
shown_times shown seen tables times = if shown then Some (timed_sites seen tables times) else None
