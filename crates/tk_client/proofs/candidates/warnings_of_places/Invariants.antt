use Rattle.std.proofs.Common.{◌≡◌, take}
use Rattle.std.specs.List.{flat_map}
use Rattle.tk_client.specs.Candidates.{warnings_at}
use Rattle.tk_client.proofs.candidates.warnings_of_places.Given as goal

-- the warnings of the places so far
abbrev pub invariant-loop-place : goal.invariant-loop-place
invariant-loop-place l = l.list.items ≡ flat_map (warnings_at l.lints l.tables) (take l.place-index l.places)
