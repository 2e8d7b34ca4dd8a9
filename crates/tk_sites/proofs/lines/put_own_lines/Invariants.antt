use Rattle.std.proofs.Common.{take}
use Rattle.tk_report.specs.Pieces.{Puts}
use Rattle.tk_sites.specs.Lines.{numbered, timed_line}
use Rattle.tk_sites.proofs.lines.put_own_lines.Given as goal

-- those so far were put
abbrev pub invariant-loop-at : goal.invariant-loop-at
invariant-loop-at l = Puts l.initial.out.items l.out.items (numbered (timed_line l.times) 1 (take l.at l.sites.first))
