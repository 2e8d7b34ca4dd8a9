use Rattle.tk_stream.proofs.Pieces.{text_taken}
use Rattle.tk_stream.proofs.text.read_own.pieces.take_text.Goals as goal

pub returns-then-eq : goal.returns-then-eq
returns-then-eq c = text_taken c.args.bytes.now c.args.text.now _ _ c.eq.result c.split_at.ensures.front c.split_at.ensures.back c.eq.ensures c.if-eq.true
