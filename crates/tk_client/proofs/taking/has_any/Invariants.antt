use Rattle.std.proofs.Common.{◌≡◌, drop}
use Rattle.std.specs.List.{list_any}
use Rattle.tk_client.specs.Applying.{has_info}
use Rattle.tk_client.proofs.taking.has_any.Given as goal

abbrev pub invariant-loop-info : goal.invariant-loop-info
invariant-loop-info g l =
    list_any (has_info g.T.Listed.kind (g.T.Listed.items l.old)) (drop l.info-index l.infos) ≡ list_any (has_info g.T.Listed.kind (g.T.Listed.items l.old)) l.infos
