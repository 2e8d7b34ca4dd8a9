use Rattle.tk_stream.proofs.Pieces.{unescapes_more, unescapes_all}
use Rattle.tk_stream.proofs.text.read_own.pieces.take_escaped.Goals as goal

pub returns-in-Some : goal.returns-in-Some
returns-in-Some c = unescapes_all c.args.bytes.now c.loop.text.items c.loop.rest.now _ c.loop.invariant c.in-Some.ensures

pub loop-preserved : goal.loop-preserved
loop-preserved c = rw c.in_ok-push.ensures.items (unescapes_more c.args.bytes.now c.loop.text.items c.loop.rest.now _ c.in-Some-take_byte.byte c.loop.invariant c.in-Some-take_byte.ensures)
