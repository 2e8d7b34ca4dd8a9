use Rattle.std.proofs.Common.{◌≡◌, [], map, take}
use Rattle.std.specs.Prelude.{fold}
use Rattle.tk_frame.specs.Places.{numbered_from, put_in, row_of}
use Rattle.tk_frame.proofs.places.places_of.Given as goal

-- those so far stand in their order
abbrev pub invariant-loop-i : goal.invariant-loop-i
invariant-loop-i l = map row_of l.list.items ≡ fold put_in [] (numbered_from l.held 0 (take l.i l.sites.first))
