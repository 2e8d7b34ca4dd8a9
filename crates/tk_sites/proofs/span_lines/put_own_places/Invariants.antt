use Rattle.std.proofs.Common.{take}
use Rattle.tk_report.specs.Pieces.{Puts}
use Rattle.tk_sites.specs.Lines.{numbered}
use Rattle.tk_sites.specs.SpanLines.{span_line}
use Rattle.tk_sites.proofs.span_lines.put_own_places.Given as goal

-- those so far were put
abbrev pub invariant-loop-at : goal.invariant-loop-at
invariant-loop-at l = Puts l.initial.out.items l.out.items (numbered (span_line l.old l.times) 1 (take l.at l.sites.first))
