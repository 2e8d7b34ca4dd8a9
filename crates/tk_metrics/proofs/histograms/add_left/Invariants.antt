use Rattle.std.proofs.Common.{◌≡◌, take}
use Rattle.std.specs.Prelude.{flat_map}
use Rattle.tk_metrics.specs.Histograms.{left_histogram, with_all}
use Rattle.tk_metrics.proofs.histograms.add_left.Given as goal

-- those so far are added
abbrev pub invariant-loop-one : goal.invariant-loop-one
invariant-loop-one l = l.series ≡ with_all l.initial.series (flat_map (left_histogram l.timing l.keys) (take l.one-index l.left))
