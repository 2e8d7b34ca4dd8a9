use Rattle.std.proofs.Common.{take}
use Rattle.std.specs.Prelude.{flat_map}
use Rattle.tk_metrics.specs.Metrics.{state_samples}
use Rattle.tk_report.specs.Pieces.{Puts}
use Rattle.tk_metrics.proofs.writing.put_all_states.Given as goal

-- the samples so far
abbrev pub invariant-loop-place : goal.invariant-loop-place
invariant-loop-place l = Puts l.initial.out.items l.out.items (flat_map state_samples (take l.place l.tasks))
