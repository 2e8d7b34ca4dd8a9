use Rattle.std.proofs.Common.{◌≤◌, length}
use Rattle.tk_live.specs.Read.{AreOpsRead}
use Rattle.tk_live.proofs.interpreter.lines.read_ops.Given as goal

abbrev pub invariant-loop-i : goal.invariant-loop-i
invariant-loop-i g l = AreOpsRead l.i l.fn.aggregator l.fn.ops.items l.aggregator l.ops.items × (l.i ≤ length l.fn.aggregator.tables.ops)
