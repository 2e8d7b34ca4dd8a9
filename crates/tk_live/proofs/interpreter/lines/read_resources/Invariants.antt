use Rattle.std.proofs.Common.{◌≤◌, length}
use Rattle.tk_live.specs.Read.{AreResourcesRead}
use Rattle.tk_live.proofs.interpreter.lines.read_resources.Given as goal

abbrev pub invariant-loop-i : goal.invariant-loop-i
invariant-loop-i g l = AreResourcesRead l.i l.fn.aggregator l.fn.resources.items l.aggregator l.resources.items × (l.i ≤ length l.fn.aggregator.tables.resources)
