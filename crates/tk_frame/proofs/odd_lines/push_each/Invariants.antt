use Rattle.std.proofs.Common.{map, take}
use Rattle.tk_odd.specs.Findings.{placed}
use Rattle.tk_screen.specs.Texts.{Puts}
use Rattle.tk_frame.specs.Findings.{numbered, shown_line}
use Rattle.tk_frame.proofs.odd_lines.push_each.Given as goal

-- the lines of those so far were put
abbrev pub invariant-loop-i : goal.invariant-loop-i
invariant-loop-i l = Puts l.initial.lines.items l.lines.items (numbered (shown_line l.tables.tasks) 1 (map placed (take l.i l.list)))
