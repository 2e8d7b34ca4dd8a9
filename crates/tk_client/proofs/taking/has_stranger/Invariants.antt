use Rattle.std.proofs.Common.{◌≡◌, drop}
use Rattle.std.specs.List.{list_any}
use Rattle.tk_client.specs.Applying.{is_stranger}
use Rattle.tk_client.proofs.taking.has_stranger.Given as goal

-- what is left decides
abbrev pub invariant-loop-told : goal.invariant-loop-told
invariant-loop-told g l =
    list_any (is_stranger g.T.Listed.kind (g.T.Listed.items l.old) l.new) (drop l.told-index l.stats) ≡ list_any (is_stranger g.T.Listed.kind (g.T.Listed.items l.old) l.new) l.stats
