use Rattle.std.proofs.Common.{◌≡◌, take}
use Rattle.std.specs.Prelude.{map}
use Rattle.tk_stream.specs.Applied.{told_item}
use Rattle.tk_client.proofs.taking.tell_all.Given as goal

-- what is told so far
abbrev pub invariant-loop-told : goal.invariant-loop-told
invariant-loop-told g l =
    l.tables ≡ g.T.Listed.with_items l.fn.tables (map (told_item g.T.Listed.kind (take l.told-index l.stats)) (g.T.Listed.items l.fn.tables))
