use Rattle.std.proofs.Common.{take}
use Rattle.std.specs.Prelude.{flat_map}
use Rattle.tk_paper.specs.Pieces.{Puts}
use Rattle.tk_paper.specs.Escaping.{escaped_byte}
use Rattle.tk_paper.specs.Parts.{after_text}
use Rattle.tk_paper.proofs.paper.Paper.text.Given as goal

-- the bytes so far stand there, escaped
abbrev pub invariant-loop-byte : goal.invariant-loop-byte
invariant-loop-byte l = Puts l.fn.self l.self (flat_map escaped_byte (take l.byte-index l.bytes)) after_text
