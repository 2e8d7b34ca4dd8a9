use Rattle.std.proofs.Common.{take}
use Rattle.tk_screen.specs.Texts.{Puts}
use Rattle.tk_frame.specs.Findings.{numbered}
use Rattle.tk_frame.specs.PlaceLines.{place_row}
use Rattle.tk_frame.specs.Queries.{places_by}
use Rattle.tk_frame.proofs.place_lines.push_rows.Given as goal

-- the lines of those so far were put
abbrev pub invariant-loop-i : goal.invariant-loop-i
invariant-loop-i l = Puts l.initial.lines.items l.lines.items (numbered (place_row (places_by l.recent l.odd) l.chosen) 0 (take l.i l.top))
