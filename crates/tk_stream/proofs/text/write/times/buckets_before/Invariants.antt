use Rattle.std.proofs.Common.{◌≡◌, ◌+◌, ◌*◌, ◌-◌, ◌≤◌, drop, false}
use Rattle.std.specs.Prelude.{map}
use Rattle.serde_json.specs.View.{items_of}
use Rattle.serde_json.specs.Written.{items_text}
use Rattle.tk_stream.specs.Pieces.{Takes}
use Rattle.tk_stream.specs.Spelling.{filled_data}
use Rattle.tk_stream.specs.Times.{filled_from}
use Rattle.tk_stream.proofs.TimesLemmas.{has_some}
use Rattle.tk_stream.proofs.text.write.times.buckets_before.Given as goal

-- the buckets from `left` on are written that aren't empty, and it is known whether there are any
abbrev pub invariant-loop-left : goal.invariant-loop-left
invariant-loop-left g l =
    (l.left ≤ 14) × (l.start ≤ g.row.N) × (l.at ≤ l.start + (1 + 44 * (14 - l.left)))
    × (l.later ≡ has_some (filled_from l.left (drop l.left l.counts)))
    × Takes (drop l.start l.bytes) (items_text false (items_of (map filled_data (filled_from l.left (drop l.left l.counts))))) (drop l.at l.initial.bytes)

abbrev pub decreases-loop-left : goal.decreases-loop-left
decreases-loop-left g l = l.left
