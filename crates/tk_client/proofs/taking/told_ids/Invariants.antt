use Rattle.std.proofs.Common.{◌≡◌, take}
use Rattle.std.specs.Prelude.{map}
use Rattle.tk_client.specs.Applying.{stats_id_by}
use Rattle.tk_client.proofs.taking.told_ids.Given as goal

abbrev pub invariant-loop-told : goal.invariant-loop-told
invariant-loop-told g l = l.ids.items ≡ map (stats_id_by g.T.Listed.kind) (take l.told-index l.stats)
