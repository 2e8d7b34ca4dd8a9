use Rattle.std.proofs.Common.{◌≡◌, ℕ, List, map}
use Rattle.tk_stream.specs.Tables.{task_id}
use Rattle.tk_stream.specs.declared.tables.task.Task.{Task}
use Rattle.tk_series.specs.Limited.{limited}
use Rattle.tk_series.proofs.FoldLemmas.{so_far}
use Rattle.tk_metrics.specs.Blame.{plus_tally}
use Rattle.tk_metrics.specs.Keys.{came_name}
use Rattle.tk_metrics.specs.KeysKept.{AreThere}
use Rattle.tk_metrics.specs.declared.blame.Tally.{Tally}
use Rattle.tk_metrics.proofs.keys.add_came.Given as goal

-- those so far are added
abbrev pub invariant-loop-id : goal.invariant-loop-id
invariant-loop-id l = (room : ℕ) (before : List (List ℕ × Tally)) (tasks : List Task) → l.initial.names ≡ limited room plus_tally before → l.ids ≡ map task_id tasks
    → AreThere l.tables tasks → l.names ≡ so_far room plus_tally (came_name l.by) before tasks l.id-index
