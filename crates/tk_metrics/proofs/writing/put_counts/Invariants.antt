use Rattle.std.proofs.Common.{take}
use Rattle.std.specs.Prelude.{flat_map}
use Rattle.tk_metrics.specs.Metrics.{count_of}
use Rattle.tk_metrics.specs.Samples.{sample}
use Rattle.tk_metrics.specs.declared.family.Family.TheVariants.{Task}
use Rattle.tk_report.specs.Pieces.{Puts}
use Rattle.tk_metrics.proofs.writing.put_counts.Given as goal

-- the samples so far
abbrev pub invariant-loop-place : goal.invariant-loop-place
invariant-loop-place l = Puts l.initial.out.items l.out.items (flat_map (λ s. sample (Task l.count) (s.0, count_of l.count s.1)) (take l.place l.tasks))
