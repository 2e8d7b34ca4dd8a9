use Rattle.std.proofs.Common.{◌≡◌, ℕ, take}
use Rattle.tk_stream.specs.Tables.{is_among}
use Rattle.tk_client.proofs.change.id_set.Given as goal

-- the ids so far
abbrev pub invariant-loop-id : goal.invariant-loop-id
invariant-loop-id l = (id : ℕ) → is_among l.ids.keys id ≡ is_among (take l.id-index l.gone) id
