use Rattle.std.proofs.Common.{◌≡◌, take}
use Rattle.std.specs.Prelude.{map}
use Rattle.tk_stream.specs.Tables.{counts_id}
use Rattle.tk_client.proofs.taking.counted_ids.Given as goal

abbrev pub invariant-loop-id : goal.invariant-loop-id
invariant-loop-id l = l.ids.items ≡ map counts_id (take l.id-index l.counts)
