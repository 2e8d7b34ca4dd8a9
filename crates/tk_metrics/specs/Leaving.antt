-- What has left the tables of a stream.
use Rattle.std.specs.Prelude.{◌≡◌, ℕ, List, [], ◌∷◌, ◌++◌, map, filter, not, is_some, if◌then◌else◌}
use Rattle.tk_stream.specs.Tables.{PollCounts, TablesView, empty_tables, resource_with, task_with}
use Rattle.tk_stream.specs.declared.tables.resource.Resource.{Resource}
use Rattle.tk_stream.specs.declared.tables.task.Task.{Task}
use Rattle.tk_client.specs.declared.change.LeftTask.{LeftTask}
use Rattle.tk_metrics.specs.declared.left.Left.{Left}
use Rattle.tk_metrics.specs.declared.sums.PollOps.{PollOps}
use Rattle.tk_metrics.specs.declared.sums.Sums.{Sums}
use Rattle.tk_metrics.specs.Entries.{left_task}
use Rattle.tk_metrics.specs.declared.keys.Keys.{Keys}
use Rattle.tk_metrics.specs.Metrics.{Gone}
use Rattle.tk_metrics.specs.Stays.{stays}
use Rattle.tk_series.specs.Series.{series_of}
use Rattle.tk_metrics.specs.Sums.{both_ops, plus, resource_entry}

-- ---- from tables to the next

-- the tasks that the next tables have no more
abbrev pub tasks_between : TablesView → TablesView → List Task
tasks_between old new = filter (λ (t : Task). not (is_some (task_with t.info.id new.tasks))) old.tasks

-- the resources that the next tables have no more
abbrev pub resources_between : TablesView → TablesView → List Resource
resources_between old new = filter (λ (r : Resource). not (is_some (resource_with r.info.id new.resources))) old.resources

-- what stays of the tasks that the next tables have no more
abbrev pub tasks_left : Keys → TablesView → TablesView → List (List ℕ × Sums)
tasks_left by old new = if stays by.by then map (left_task by) (tasks_between old new) else []

-- ---- from line to line

-- the tasks that left since tables, each as it was last shown
abbrev pub tasks_since : Keys → TablesView → List TablesView → List (List ℕ × Sums)
tasks_since by old [] = []
tasks_since by old (new ∷ shown) = tasks_left by old new ++ tasks_since by new shown

-- the resources that left since tables, each with the poll operations that it last had
abbrev pub resources_since : TablesView → List TablesView → List (List ℕ × PollOps)
resources_since old [] = []
resources_since old (new ∷ shown) = map (resource_entry old.counts) (resources_between old new) ++ resources_since new shown

-- what has left the tables after each line of a stream
abbrev pub gone_in : Keys → List TablesView → Gone
gone_in by shown = record { tasks = tasks_since by empty_tables shown; resources = resources_since empty_tables shown }

-- ---- what is kept of it

-- what stays of tasks that left with a line
abbrev pub left_entries : Keys → List LeftTask → List (List ℕ × Sums)
left_entries by left = if stays by.by then map (λ (l : LeftTask). left_task by l.task) left else []

-- those of some resources that tables have no more
abbrev pub resources_lost : List Resource → TablesView → List Resource
resources_lost old new = filter (λ (r : Resource). not (is_some (resource_with r.info.id new.resources))) old

-- what has left, and tasks that left with a line
abbrev pub with_tasks : Keys → List LeftTask → Gone → Gone
with_tasks by left gone = record { tasks = gone.tasks ++ left_entries by left; resources = gone.resources }

-- and resources that tables have no more, with the poll counts that they last had
abbrev pub with_resources : List Resource → List PollCounts → TablesView → Gone → Gone
with_resources old counts new gone = record { tasks = gone.tasks; resources = gone.resources ++ map (resource_entry counts) (resources_lost old new) }

-- what has left is added up
pub record Holds (gone : Gone) (left : Left) : Type 0 where
  pub tasks : left.tasks ≡ series_of plus gone.tasks
  pub resources : left.resources ≡ series_of both_ops gone.resources
