use Rattle.std.proofs.Common.{map, take}
use Rattle.tk_odd.specs.Findings.{told}
use Rattle.tk_report.specs.Pieces.{Puts}
use Rattle.tk_found.specs.Lines.{lines_from}
use Rattle.tk_found.proofs.lines.put_findings.Given as goal

-- the lines of those so far were put
abbrev pub invariant-loop-i : goal.invariant-loop-i
invariant-loop-i l = Puts l.initial.out.items l.out.items (lines_from 1 (map told (take l.i l.list)))
