use Rattle.std.proofs.Common.{take}
use Rattle.std.specs.Prelude.{flat_map}
use Rattle.tk_paper.specs.Pieces.{Writes}
use Rattle.tk_page.specs.Changed.{finding_if}
use Rattle.tk_page.proofs.changed.put_findings_at.Given as goal

-- those so far were put
abbrev pub invariant-loop-at : goal.invariant-loop-at
invariant-loop-at l = Writes l.initial.paper l.paper (flat_map (finding_if l.rank) (take l.at l.findings))
