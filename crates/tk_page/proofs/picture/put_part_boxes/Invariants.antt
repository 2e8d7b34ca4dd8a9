use Rattle.std.proofs.Common.{take}
use Rattle.tk_paper.specs.Pieces.{Writes}
use Rattle.tk_page.specs.Picture.{part_boxes}
use Rattle.tk_page.proofs.picture.put_part_boxes.Given as goal

-- the boxes so far
abbrev pub invariant-loop-split : goal.invariant-loop-split
invariant-loop-split l = Writes l.initial.paper l.paper (part_boxes l.scale l.top l.whom (take l.split-index l.splits))
