use Rattle.std.proofs.Common.{◌≡◌, take}
use Rattle.std.specs.Prelude.{flat_map}
use Rattle.tk_client.specs.Changing.{left_at}
use Rattle.tk_client.proofs.change.left_of.Given as goal

-- the tasks at the places so far
abbrev pub invariant-loop-place : goal.invariant-loop-place
invariant-loop-place l = l.left.items ≡ flat_map (left_at l.times l.tables.tasks) (take l.place-index l.places)
