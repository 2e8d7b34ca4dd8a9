use Rattle.tk_stream.proofs.Pieces.{Unescapes}
use Rattle.tk_stream.proofs.text.read_own.pieces.take_escaped.Given as goal

abbrev pub invariant-loop : goal.invariant-loop
invariant-loop l = Unescapes l.bytes l.text.items l.rest
