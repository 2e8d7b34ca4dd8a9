use Rattle.tk_stream.proofs.Pieces.{special_before, usual_before}
use Rattle.tk_stream.proofs.text.write.short.byte_before.Goals as goal

pub returns-then-is_escaped-clause-text : goal.returns-then-is_escaped-clause-text
returns-then-is_escaped-clause-text g c =
    special_before c.args.byte c.is_escaped.result c.is_escaped.ensures c.if-is_escaped.true c.text_before.ensures.text c.text_before-start.ensures.text

pub returns-else-is_escaped-clause-text : goal.returns-else-is_escaped-clause-text
returns-else-is_escaped-clause-text g c =
    usual_before c.args.byte c.is_escaped.result c.requires.printable c.is_escaped.ensures c.if-is_escaped.false c.text_before-start.ensures.text
