use Rattle.tk_frame.specs.Polled.{own_op}
use Rattle.tk_frame.proofs.PlaceLemmas.{all_put, next_put}
use Rattle.tk_frame.proofs.polled.push_ops.Goals as goal

pub loop-place-preserved : goal.loop-place-preserved
loop-place-preserved c = next_put (own_op c.args.tables.now c.args.id) c.args.tables.now.ops c.loop-place.place c.loop-place.invariant c.in_ok-push_op_at.ensures

pub returns : goal.returns
returns c = all_put (own_op c.args.tables.now c.args.id) c.args.tables.now.ops c.loop-place.place _ c.op_count-place-end.ensures c.loop-place-test.false c.loop-place.invariant
