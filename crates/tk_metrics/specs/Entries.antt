-- What tasks add to the sums of their labels.
use Rattle.std.specs.Prelude.{ℕ, List}
use Rattle.tk_stream.specs.declared.tables.task.Task.{Task}
use Rattle.tk_metrics.specs.Keys.{labels_in}
use Rattle.tk_metrics.specs.declared.keys.Keys.{Keys}
use Rattle.tk_metrics.specs.Sums.{sums_left, sums_of}
use Rattle.tk_metrics.specs.declared.sums.Sums.{Sums}

-- a task, with what it has come to at a moment
abbrev pub task_entry : Keys → ℕ → Task → List ℕ × Sums
task_entry by now t = (labels_in by t, sums_of now t.row)

-- a task that has left
abbrev pub left_task : Keys → Task → List ℕ × Sums
left_task by t = (labels_in by t, sums_left t.row)
