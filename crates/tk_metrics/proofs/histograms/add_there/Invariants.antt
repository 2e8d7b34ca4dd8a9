use Rattle.std.proofs.Common.{◌≡◌, take}
use Rattle.std.specs.Prelude.{flat_map}
use Rattle.tk_metrics.specs.Histograms.{task_histogram, with_all}
use Rattle.tk_metrics.proofs.histograms.add_there.Given as goal

-- those so far are added
abbrev pub invariant-loop-place : goal.invariant-loop-place
invariant-loop-place l = l.series ≡ with_all l.initial.series (flat_map (task_histogram l.timing l.keys l.times) (take l.place l.tables.tasks))
