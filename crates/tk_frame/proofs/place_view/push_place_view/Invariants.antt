use Rattle.std.proofs.Common.{take}
use Rattle.std.specs.Prelude.{flat_map}
use Rattle.tk_screen.specs.Texts.{Puts}
use Rattle.tk_frame.specs.PlaceView.{part_if}
use Rattle.tk_frame.proofs.place_view.push_place_view.Given as goal

-- the lines of the places so far
abbrev pub invariant-loop-i : goal.invariant-loop-i
invariant-loop-i l = Puts l.initial.lines.items l.lines.items (flat_map (part_if l.number l.tables l.odd) (take l.i l.odd.places))
