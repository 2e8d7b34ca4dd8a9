use Rattle.std.proofs.Common.{◌≡◌, ℕ, List}
use Rattle.tk_series.specs.Series.{series_of}
use Rattle.tk_metrics.specs.Sums.{both_ops, resource_entry}
use Rattle.tk_metrics.specs.declared.sums.PollOps.{PollOps}
use Rattle.tk_series.proofs.SeriesLemmas.{so_far}
use Rattle.tk_metrics.proofs.sums.add_resources.Given as goal

-- the resources so far are added
abbrev pub invariant-loop-place : goal.invariant-loop-place
invariant-loop-place l = (before : List (List ℕ × PollOps)) → l.initial.series ≡ series_of both_ops before
    → l.series ≡ so_far both_ops (resource_entry l.tables.counts) before l.tables.resources l.place
