use Rattle.std.proofs.Common.{take}
use Rattle.std.specs.Prelude.{flat_map}
use Rattle.tk_metrics.specs.Blame.{held_sample}
use Rattle.tk_report.specs.Pieces.{Puts}
use Rattle.tk_metrics.proofs.blame.put_held.Given as goal

-- the samples so far
abbrev pub invariant-loop-i : goal.invariant-loop-i
invariant-loop-i l = Puts l.initial.out.items l.out.items (flat_map held_sample (take l.i l.held))
