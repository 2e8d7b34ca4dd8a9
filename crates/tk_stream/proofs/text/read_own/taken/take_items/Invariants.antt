use Rattle.tk_stream.proofs.Pieces.{GoesOn}
use Rattle.tk_stream.proofs.text.read_own.taken.take_items.Given as goal

abbrev pub invariant-loop : goal.invariant-loop
invariant-loop g l = GoesOn g.T.Taken.spelling l.list.items l.bytes l.rest
