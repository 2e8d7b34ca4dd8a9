use Rattle.std.proofs.Common.{arith}
use Rattle.tk_page.specs.Items.{op}
use Rattle.tk_paper.proofs.PutLemmas.{nothing}
use Rattle.tk_page.proofs.LoopLemmas.{all_mapped, item_at, next_part}
use Rattle.tk_page.proofs.ops.put_each_op.Goals as goal

pub loop-op-init : goal.loop-op-init
loop-op-init c = nothing c.args.paper.now

pub loop-op-preserved : goal.loop-op-preserved
loop-op-preserved c =
    let xs = c.args.ops.now in
    let i = c.loop-op.op-index in
    next_part (λ x. (op c.args.tables.now.tasks) x.now) xs i c.op-item.result (item_at xs i c.op-item.result (omega arith) c.op-item.is) c.loop-op.invariant c.in_ok-put_op.ensures

pub returns : goal.returns
returns c = all_mapped (λ x. x.now) (op c.args.tables.now.tasks) c.args.ops.now c.loop-op.op-index (omega arith) c.loop-op.invariant
