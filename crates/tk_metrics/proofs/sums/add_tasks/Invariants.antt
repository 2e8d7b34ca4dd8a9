use Rattle.std.proofs.Common.{◌≡◌, ℕ, List}
use Rattle.tk_series.specs.Series.{series_of}
use Rattle.tk_metrics.specs.Entries.{task_entry}
use Rattle.tk_metrics.specs.Sums.{plus}
use Rattle.tk_metrics.specs.declared.sums.Sums.{Sums}
use Rattle.tk_series.proofs.SeriesLemmas.{so_far}
use Rattle.tk_metrics.proofs.sums.add_tasks.Given as goal

-- the tasks so far are added
abbrev pub invariant-loop-place : goal.invariant-loop-place
invariant-loop-place l = (before : List (List ℕ × Sums)) → l.initial.series ≡ series_of plus before → l.series ≡ so_far plus (task_entry l.keys l.tables.now) before l.tables.tasks l.place
