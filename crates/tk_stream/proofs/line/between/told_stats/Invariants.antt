use Rattle.std.proofs.Common.{◌≡◌, take}
use Rattle.tk_stream.specs.Lines.{told_stats}
use Rattle.tk_stream.proofs.line.between.told_stats.Given as goal

abbrev pub invariant-loop-i : goal.invariant-loop-i
invariant-loop-i g l = l.list.items ≡ told_stats g.T.Item.id_of g.T.Told.same g.T.Told.stats_of l.old (take l.i l.new)
