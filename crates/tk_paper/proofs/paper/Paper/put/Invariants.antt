use Rattle.std.proofs.Common.{map, take}
use Rattle.tk_paper.specs.Pieces.{Writes}
use Rattle.tk_paper.specs.Parts.{bit_of}
use Rattle.tk_paper.proofs.paper.Paper.put.Given as goal

-- the parts so far stand there
abbrev pub invariant-loop-part : goal.invariant-loop-part
invariant-loop-part l = Writes l.initial.self l.self (map bit_of (take l.part-index l.parts))
