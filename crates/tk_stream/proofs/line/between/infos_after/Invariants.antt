use Rattle.std.proofs.Common.{◌≡◌, ◌++◌, ◌≤◌, map, drop, length}
use Rattle.tk_stream.proofs.line.between.infos_after.Given as goal

abbrev pub invariant-loop-i : goal.invariant-loop-i
invariant-loop-i g l = (l.i ≤ length l.new) × (l.list.items ++ map g.T.Described.info_of (drop l.i l.new) ≡ map g.T.Described.info_of (drop (length l.told.rows) l.new))
