use Rattle.std.proofs.Common.{◌≡◌, take}
use Rattle.tk_client.specs.Candidates.{places_by}
use Rattle.tk_client.specs.Changing.{is_beside}
use Rattle.tk_client.proofs.change.places_without.Given as goal

-- the places so far of the tasks that are none of these
abbrev pub invariant-loop-place : goal.invariant-loop-place
invariant-loop-place l = l.places.items ≡ places_by (is_beside l.these.keys) 0 (take l.place l.tables.tasks)
