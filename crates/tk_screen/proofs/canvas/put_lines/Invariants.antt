use Rattle.std.proofs.Common.{take}
use Rattle.tk_screen.specs.Texts.{Puts}
use Rattle.tk_screen.specs.Screens.{lines_text}
use Rattle.tk_screen.proofs.canvas.put_lines.Given as goal

-- the lines so far
abbrev pub invariant-loop-line : goal.invariant-loop-line
invariant-loop-line l = Puts l.initial.out.items l.out.items (lines_text l.canvas (take l.line-index l.lines))
