use Rattle.tk_stream.proofs.Pieces.{plain_before}
use Rattle.tk_stream.proofs.text.write.short.name_before.Goals as goal

pub returns-then-is_plain-clause-text : goal.returns-then-is_plain-clause-text
returns-then-is_plain-clause-text g c =
    rw (← c.as_bytes-text.ensures.bytes) (plain_before c.as_bytes-text.result.now c.is_plain.result c.is_plain.ensures c.if-is_plain.true c.text_before.ensures.text)
