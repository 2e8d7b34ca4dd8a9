use Rattle.std.proofs.Common.{take}
use Rattle.std.specs.Prelude.{flat_map}
use Rattle.tk_metrics.specs.Blame.{finding_sample}
use Rattle.tk_report.specs.Pieces.{Puts}
use Rattle.tk_metrics.proofs.blame.put_series.Given as goal

-- the samples so far
abbrev pub invariant-loop-place : goal.invariant-loop-place
invariant-loop-place l = Puts l.initial.out.items l.out.items (flat_map finding_sample (take l.place l.series))
