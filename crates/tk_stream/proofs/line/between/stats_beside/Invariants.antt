use Rattle.std.proofs.Common.{◌≡◌, ◌++◌, ◌≤◌, drop, length}
use Rattle.tk_stream.specs.Fronts.{as_told, stats_beside}
use Rattle.tk_stream.proofs.line.between.stats_beside.Given as goal

abbrev pub invariant-loop-i : goal.invariant-loop-i
invariant-loop-i g l = (l.i ≤ length l.new) × (l.list.items ++ stats_beside (as_told g.T.Item.with_row) g.T.Told.same g.T.Told.stats_of (drop l.i l.told.rows) (drop l.i l.new)
    ≡ stats_beside (as_told g.T.Item.with_row) g.T.Told.same g.T.Told.stats_of l.told.rows l.new)
