use Rattle.tk_stream.proofs.Pieces.{goes_further, goes_out}
use Rattle.tk_stream.proofs.text.read_own.taken.take_items.Goals as goal

pub returns-in-Some-take_text : goal.returns-in-Some-take_text
returns-in-Some-take_text g c =
    let took = rw c.in-Some.is at c.in_ok-item.ensures in
    rw c.in_ok-push.ensures.items
    (goes_out g.T.Taken.spelling c.loop.list.items c.in-Some.item c.args.bytes.now c.loop.rest.now _ _ took c.in-Some-take_text.ensures c.loop.invariant)

pub loop-preserved : goal.loop-preserved
loop-preserved g c =
    let took = rw c.in-Some.is at c.in_ok-item.ensures in
    rw c.in_ok-push.ensures.items
    (goes_further g.T.Taken.spelling c.loop.list.items c.in-Some.item c.args.bytes.now c.loop.rest.now _ _ took c.in-Some-take_text-2.ensures c.loop.invariant)
