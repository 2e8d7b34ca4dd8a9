use Rattle.std.proofs.Common.{take}
use Rattle.std.specs.Prelude.{flat_map}
use Rattle.tk_paper.specs.Pieces.{Writes}
use Rattle.tk_page.specs.Strips.{box, box_of}
use Rattle.tk_page.proofs.boxes.put_boxes.Given as goal

-- the boxes so far
abbrev pub invariant-loop-step : goal.invariant-loop-step
invariant-loop-step l = Writes l.initial.paper l.paper (flat_map (λ step. box (box_of l.scale l.boxes step)) (take l.step-index l.steps))
