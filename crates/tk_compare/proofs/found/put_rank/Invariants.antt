use Rattle.std.proofs.Common.{take}
use Rattle.std.specs.Prelude.{flat_map}
use Rattle.tk_report.specs.Pieces.{Puts}
use Rattle.tk_compare.specs.Found.{finding_at}
use Rattle.tk_compare.proofs.found.put_rank.Given as goal

-- those so far were put
abbrev pub invariant-loop-at : goal.invariant-loop-at
invariant-loop-at l = Puts l.initial.out.items l.out.items (flat_map (finding_at l.rank) (take l.at l.findings))
