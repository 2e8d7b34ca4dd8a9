-- How labels that stand by themselves are kept. Inner: no public clause cites this.
use Rattle.std.specs.Prelude.{◌≡◌, List, Some}
use Rattle.std.specs.List.{AllByRecursion}
use Rattle.tk_stream.specs.Tables.{TablesView, task_with}
use Rattle.tk_stream.specs.declared.tables.task.Task.{Task}

-- each of these tasks is found in tables by its id
abbrev pub AreThere : TablesView → List Task → Type 0
AreThere tables tasks = AllByRecursion (λ (t : Task). task_with t.info.id tables.tasks ≡ Some t) tasks
