use Rattle.tk_stream.proofs.Pieces.{item_put, items_open}
use Rattle.tk_stream.proofs.text.write.written.put_items.Goals as goal

pub loop-item-preserved : goal.loop-item-preserved
loop-item-preserved g c =
    item_put g.T.Written.spelling c.args.list.now c.loop-item.item-index c.loop-item.later c.item-item.result c.loop-item.out.items _ _ c.loop-item-test.true c.item-item.is c.in_ok-write.ensures c.loop-item.invariant

pub returns : goal.returns
returns g c = record { is = items_open g.T.Written.spelling c.args.list.now c.loop-item.item-index c.loop-item.later c.loop-item.out.items _ c.loop-item-test.false c.loop-item.invariant }
