use Rattle.std.proofs.Common.{take}
use Rattle.std.specs.Prelude.{flat_map}
use Rattle.tk_metrics.specs.Histograms.{times_sample}
use Rattle.tk_report.specs.Pieces.{Puts}
use Rattle.tk_metrics.proofs.times.put_times.Given as goal

-- the samples so far
abbrev pub invariant-loop-place : goal.invariant-loop-place
invariant-loop-place l = Puts l.initial.out.items l.out.items (flat_map (times_sample l.timing) (take l.place l.series))
