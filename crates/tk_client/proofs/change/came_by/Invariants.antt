use Rattle.std.proofs.Common.{◌≡◌, take}
use Rattle.std.specs.Prelude.{filter, map}
use Rattle.tk_client.specs.Changing.{is_away}
use Rattle.tk_client.specs.Taking.{new_id}
use Rattle.tk_client.proofs.change.came_by.Given as goal

-- of the infos so far those that the tables haven't
abbrev pub invariant-loop-info : goal.invariant-loop-info
invariant-loop-info l = l.ids.items ≡ filter (is_away l.tables) (map new_id (take l.info-index l.infos))
