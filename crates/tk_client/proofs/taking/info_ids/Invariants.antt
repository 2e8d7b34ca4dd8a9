use Rattle.std.proofs.Common.{◌≡◌, take}
use Rattle.std.specs.Prelude.{map}
use Rattle.tk_client.specs.Applying.{info_id_by}
use Rattle.tk_client.proofs.taking.info_ids.Given as goal

abbrev pub invariant-loop-info : goal.invariant-loop-info
invariant-loop-info g l = l.ids.items ≡ map (info_id_by g.T.Listed.kind) (take l.info-index l.infos)
