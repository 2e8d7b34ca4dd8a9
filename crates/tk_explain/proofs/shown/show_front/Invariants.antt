use Rattle.std.specs.Prelude.{map, take}
use Rattle.std.specs.Io.KnownBytes.{Appends}
use Rattle.tk_explain.specs.Telling.{shown_byte}
use Rattle.tk_explain.proofs.shown.show_front.Given as goal

-- the bytes before are shown
abbrev pub invariant-loop-i : goal.invariant-loop-i
invariant-loop-i g l = Appends (g.W.Write.contents l.fn.out) (g.W.Write.contents l.out) (map shown_byte (take l.i l.front))
