use Rattle.std.proofs.Common.{take}
use Rattle.std.specs.Prelude.{flat_map}
use Rattle.tk_report.specs.Pieces.{Puts}
use Rattle.tk_compare.specs.Lines.{line_at}
use Rattle.tk_compare.proofs.lines.put_rank.Given as goal

-- those so far were put
abbrev pub invariant-loop-at : goal.invariant-loop-at
invariant-loop-at l = Puts l.initial.out.items l.out.items (flat_map (line_at l.margin l.spans l.rank) (take l.at l.places))
