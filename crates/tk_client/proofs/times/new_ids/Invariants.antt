use Rattle.std.proofs.Common.{◌≡◌, ℕ, take}
use Rattle.std.specs.Prelude.{map}
use Rattle.tk_stream.specs.Tables.{is_among}
use Rattle.tk_client.specs.Taking.{new_id}
use Rattle.tk_client.proofs.times.new_ids.Given as goal

-- the ids of the first infos
abbrev pub invariant-loop-info : goal.invariant-loop-info
invariant-loop-info l = (id : ℕ) → is_among l.ids.keys id ≡ is_among (map new_id (take l.info-index l.infos)) id
