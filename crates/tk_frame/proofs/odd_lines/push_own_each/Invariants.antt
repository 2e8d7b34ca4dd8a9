use Rattle.std.proofs.Common.{map, take}
use Rattle.tk_odd.specs.Findings.{told}
use Rattle.tk_screen.specs.Texts.{Puts}
use Rattle.tk_frame.specs.Findings.{numbered, own_lines}
use Rattle.tk_frame.proofs.odd_lines.push_own_each.Given as goal

-- the lines of those so far were put
abbrev pub invariant-loop-i : goal.invariant-loop-i
invariant-loop-i l = Puts l.initial.lines.items l.lines.items (numbered (own_lines l.tables.tasks l.place) 1 (map told (take l.i l.list)))
