use Rattle.std.proofs.Common.{take}
use Rattle.std.specs.Prelude.{flat_map}
use Rattle.tk_paper.specs.Pieces.{Writes}
use Rattle.tk_page.specs.Strips.{reading}
use Rattle.tk_page.proofs.strips.put_each_reading.Given as goal

-- the steps so far
abbrev pub invariant-loop-step : goal.invariant-loop-step
invariant-loop-step l = Writes l.initial.paper l.paper (flat_map (reading l.scale) (take l.step-index l.steps))
