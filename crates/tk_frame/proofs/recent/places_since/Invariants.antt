use Rattle.std.proofs.Common.{◌≡◌, [], map, take}
use Rattle.std.specs.Prelude.{fold}
use Rattle.tk_frame.specs.Places.{place_since, put_in, row_of}
use Rattle.tk_frame.proofs.recent.places_since.Given as goal

-- those so far stand in their order
abbrev pub invariant-loop-place : goal.invariant-loop-place
invariant-loop-place l = map row_of l.list.items ≡ fold put_in [] (map (place_since l.earlier) (map row_of (take l.place-index l.places)))
