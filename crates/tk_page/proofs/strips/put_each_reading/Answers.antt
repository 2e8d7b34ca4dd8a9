use Rattle.std.proofs.Common.{arith}
use Rattle.tk_page.specs.Strips.{reading}
use Rattle.tk_page.specs.declared.sample.Step.{Step}
use Rattle.tk_paper.proofs.PutLemmas.{nothing}
use Rattle.tk_page.proofs.LoopLemmas.{next_of}
use Rattle.tk_page.proofs.strips.put_each_reading.Goals as goal

pub loop-step-init : goal.loop-step-init
loop-step-init c = nothing c.args.paper.now

pub loop-step-preserved : goal.loop-step-preserved
loop-step-preserved c =
    let zero : Step = record { from = 0; to = 0; busy = 0; sched = 0; wakes = 0; own = 0 } in
    next_of (reading c.args.scale) c.args.steps.now c.loop-step.step-index zero (omega arith) c.loop-step.invariant c.in_ok-put_reading.ensures
