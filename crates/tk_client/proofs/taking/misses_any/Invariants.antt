use Rattle.std.proofs.Common.{◌≡◌, drop}
use Rattle.std.specs.List.{list_any}
use Rattle.tk_client.specs.Applying.{is_missing}
use Rattle.tk_client.proofs.taking.misses_any.Given as goal

-- what is left decides
abbrev pub invariant-loop-id : goal.invariant-loop-id
invariant-loop-id g l =
    list_any (is_missing g.T.Listed.kind (g.T.Listed.items l.old)) (drop l.id-index l.gone) ≡ list_any (is_missing g.T.Listed.kind (g.T.Listed.items l.old)) l.gone
