use Rattle.std.proofs.Common.{take}
use Rattle.std.specs.Prelude.{flat_map}
use Rattle.tk_screen.specs.Texts.{Puts}
use Rattle.tk_frame.specs.Frames.{op_at}
use Rattle.tk_frame.proofs.lines.push_ops.Given as goal

-- the lines so far
abbrev pub invariant-loop-ranked : goal.invariant-loop-ranked
invariant-loop-ranked l = Puts l.initial.lines.items l.lines.items (flat_map (op_at l.tables) (take l.ranked-index l.top))
