use Rattle.std.proofs.Common.{◌+◌, ◌-◌, ◌≤◌, drop, length}
use Rattle.json.specs.Print.{escape}
use Rattle.tk_stream.specs.Pieces.{Takes}
use Rattle.tk_stream.proofs.text.write.short.escaped_before.Given as goal

-- the bytes from `left` on are written
abbrev pub invariant-loop-left : goal.invariant-loop-left
invariant-loop-left g l =
    (l.left ≤ length l.text) × (l.start ≤ g.row.N) × (l.at ≤ l.start + (length l.text - l.left) + (length l.text - l.left))
    × Takes (drop l.start l.bytes) (escape (drop l.left l.text)) (drop l.at l.initial.bytes)

abbrev pub decreases-loop-left : goal.decreases-loop-left
decreases-loop-left g l = l.left
