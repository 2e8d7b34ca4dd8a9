use Rattle.std.proofs.Common.{◌≤◌, length}
use Rattle.tk_live.specs.Read.{AreTimesRead}
use Rattle.tk_live.proofs.interpreter.lines.read_times.Given as goal

abbrev pub invariant-loop-i : goal.invariant-loop-i
invariant-loop-i g l = AreTimesRead l.i l.fn.aggregator l.fn.tasks.items l.aggregator l.tasks.items × (l.i ≤ length l.fn.aggregator.timing.shown)
