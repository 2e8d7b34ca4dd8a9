use Rattle.std.proofs.Common.{◌+◌, ◌*◌, ◌-◌, ◌≤◌, drop, length}
use Rattle.std.specs.Prelude.{map, nat_lt}
use Rattle.serde_json.specs.View.{items_of}
use Rattle.serde_json.specs.Written.{items_text}
use Rattle.tk_stream.specs.Pieces.{Takes}
use Rattle.tk_stream.specs.Spelling.{value_data}
use Rattle.tk_stream.proofs.text.write.stats.values_before.Given as goal

-- the values from `left` on are written, with a comma before them where others come before
abbrev pub invariant-loop-left : goal.invariant-loop-left
invariant-loop-left g l =
    (l.left ≤ length l.values) × (l.start ≤ g.row.N) × (l.at ≤ l.start + (1 + 23 * (length l.values - l.left)))
    × Takes (drop l.start l.bytes) (items_text (nat_lt 0 l.left) (items_of (map value_data (drop l.left l.values)))) (drop l.at l.initial.bytes)

abbrev pub decreases-loop-left : goal.decreases-loop-left
decreases-loop-left g l = l.left
