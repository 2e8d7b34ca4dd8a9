use Rattle.std.proofs.Common.{◌≡◌, ℕ, List, is_some}
use Rattle.std.specs.Prelude.{not}
use Rattle.tk_stream.specs.Tables.{resource_with}
use Rattle.tk_stream.specs.declared.tables.resource.Resource.{Resource}
use Rattle.tk_metrics.specs.Sums.{both_ops, resource_entry}
use Rattle.tk_series.specs.Series.{series_of}
use Rattle.tk_metrics.specs.declared.sums.PollOps.{PollOps}
use Rattle.tk_series.proofs.SeriesLemmas.{passed_so_far}
use Rattle.tk_metrics.proofs.left.add_resources.Given as goal

-- those so far that have left are added
abbrev pub invariant-loop-place : goal.invariant-loop-place
invariant-loop-place l = (before : List (List ℕ × PollOps)) → l.initial.resources ≡ series_of both_ops before
    → l.resources ≡ passed_so_far both_ops (resource_entry l.counts) (λ (r : Resource). not (is_some (resource_with r.info.id l.new.resources))) before l.old l.place
