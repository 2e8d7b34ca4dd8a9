use Rattle.std.proofs.Common.{arith, subst}
use Rattle.tk_paper.specs.Pieces.{Writes}
use Rattle.tk_page.specs.Picture.{part_box}
use Rattle.tk_page.specs.Strips.{box}
use Rattle.tk_page.specs.declared.picture.Split.{Split}
use Rattle.tk_paper.proofs.PutLemmas.{nothing}
use Rattle.tk_page.proofs.LoopLemmas.{next_of}
use Rattle.tk_page.proofs.picture.put_part_boxes.Goals as goal

pub loop-split-init : goal.loop-split-init
loop-split-init c = nothing c.args.paper.now

pub loop-split-preserved : goal.loop-split-preserved
loop-split-preserved c =
    let zero : Split = record { from = 0; to = 0; waited = 0; first = 0; second = 0 } in
    next_of (λ s. box (part_box c.args.scale c.args.top c.args.whom s)) c.args.splits.now c.loop-split.split-index zero (omega arith) c.loop-split.invariant
    (subst (λ area. Writes c.loop-split.paper c.put_box.new.paper (box area)) c.part_box.ensures c.in_ok-put_box.ensures)
