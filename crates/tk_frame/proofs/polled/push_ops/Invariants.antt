use Rattle.std.proofs.Common.{take}
use Rattle.std.specs.Prelude.{flat_map}
use Rattle.tk_screen.specs.Texts.{Puts}
use Rattle.tk_frame.specs.Polled.{own_op}
use Rattle.tk_frame.proofs.polled.push_ops.Given as goal

-- the lines of those so far were put
abbrev pub invariant-loop-place : goal.invariant-loop-place
invariant-loop-place l = Puts l.initial.lines.items l.lines.items (flat_map (own_op l.tables l.id) (take l.place l.tables.ops))
