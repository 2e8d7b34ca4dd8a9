use Rattle.std.proofs.Common.{arith}
use Rattle.tk_paper.proofs.PutLemmas.{all_parts, nothing, one_part}
use Rattle.tk_paper.proofs.paper.Paper.put.Goals as goal

pub loop-part-init : goal.loop-part-init
loop-part-init c = nothing c.args.self.now

pub loop-part-preserved : goal.loop-part-preserved
loop-part-preserved c =
    one_part c.args.parts.now c.loop-part.part-index _ c.loop-part-test.true c.loop-part.invariant c.in_ok-part.ensures

pub returns : goal.returns
returns c = all_parts c.args.parts.now c.loop-part.part-index (omega arith) c.loop-part.invariant
