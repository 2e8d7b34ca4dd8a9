-- Inner: what is added of the tasks that a line changed.
use Rattle.std.specs.Prelude.{◌≡◌, ℕ, List, Some}
use Rattle.std.specs.List.{AllByRecursion}
use Rattle.tk_client.specs.declared.change.LeftTask.{LeftTask}
use Rattle.tk_stream.specs.Tables.{TablesView, task_with}
use Rattle.tk_stream.specs.declared.tables.task.Task.{Task}
use Rattle.tk_sites.specs.Sites.{left_entry}
use Rattle.tk_sites.specs.declared.sums.Sums.{Sums}

-- each of these tasks is found in tables by its id
abbrev pub AreThere : TablesView → List Task → Type 0
AreThere tables tasks = AllByRecursion (λ (t : Task). task_with t.info.id tables.tasks ≡ Some t) tasks

-- what a place has of a task that left
abbrev pub left_as_shown : LeftTask → List ℕ × Sums
left_as_shown left = left_entry left.task
