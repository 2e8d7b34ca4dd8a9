use Rattle.std.proofs.Common.{take}
use Rattle.std.specs.Prelude.{map}
use Rattle.tk_screen.specs.Texts.{Puts}
use Rattle.tk_screen.specs.Screens.{drawn}
use Rattle.tk_screen.proofs.canvas.put_drawn.Given as goal

-- the bytes so far
abbrev pub invariant-loop-byte : goal.invariant-loop-byte
invariant-loop-byte l = Puts l.initial.out.items l.out.items (map drawn (take l.byte-index l.text))
