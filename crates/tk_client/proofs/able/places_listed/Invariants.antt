use Rattle.std.proofs.Common.{◌≡◌, take}
use Rattle.tk_client.specs.Candidates.{places_with}
use Rattle.tk_client.proofs.able.places_listed.Given as goal

-- the places of the ids so far
abbrev pub invariant-loop-id : goal.invariant-loop-id
invariant-loop-id l = l.places.items ≡ places_with l.tables.tasks (take l.id-index l.able.keys)
