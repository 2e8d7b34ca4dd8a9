use Rattle.std.proofs.Common.{◌≡◌, drop}
use Rattle.std.specs.List.{list_any}
use Rattle.tk_client.specs.Applying.{is_leaving}
use Rattle.tk_client.proofs.taking.tells_gone.Given as goal

-- what is left decides
abbrev pub invariant-loop-told : goal.invariant-loop-told
invariant-loop-told g l = list_any (is_leaving g.T.Listed.kind l.gone) (drop l.told-index l.stats) ≡ list_any (is_leaving g.T.Listed.kind l.gone) l.stats
