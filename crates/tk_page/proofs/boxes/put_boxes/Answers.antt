use Rattle.std.proofs.Common.{arith, subst}
use Rattle.tk_paper.specs.Pieces.{Writes}
use Rattle.tk_page.specs.Strips.{box, box_of}
use Rattle.tk_page.specs.declared.sample.Step.{Step}
use Rattle.tk_paper.proofs.PutLemmas.{nothing}
use Rattle.tk_page.proofs.LoopLemmas.{next_of}
use Rattle.tk_page.proofs.boxes.put_boxes.Goals as goal

pub loop-step-init : goal.loop-step-init
loop-step-init c = nothing c.args.paper.now

pub loop-step-preserved : goal.loop-step-preserved
loop-step-preserved c =
    let zero : Step = record { from = 0; to = 0; busy = 0; sched = 0; wakes = 0; own = 0 } in
    next_of (λ step. box (box_of c.args.scale c.args.boxes step)) c.args.steps.now c.loop-step.step-index zero (omega arith) c.loop-step.invariant
    (subst (λ area. Writes c.loop-step.paper c.put_box.new.paper (box area)) c.box_of.ensures c.in_ok-put_box.ensures)
