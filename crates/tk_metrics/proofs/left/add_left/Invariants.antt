use Rattle.std.proofs.Common.{◌≡◌, ℕ, List}
use Rattle.tk_client.specs.declared.change.LeftTask.{LeftTask}
use Rattle.tk_metrics.specs.Entries.{left_task}
use Rattle.tk_metrics.specs.Sums.{plus}
use Rattle.tk_series.specs.Series.{series_of}
use Rattle.tk_metrics.specs.declared.sums.Sums.{Sums}
use Rattle.tk_series.proofs.SeriesLemmas.{so_far}
use Rattle.tk_metrics.proofs.left.add_left.Given as goal

-- those so far are added
abbrev pub invariant-loop-one : goal.invariant-loop-one
invariant-loop-one l = (before : List (List ℕ × Sums)) → l.initial.tasks ≡ series_of plus before
    → l.tasks ≡ so_far plus (λ (x : LeftTask). left_task l.keys x.task) before l.left l.one-index
