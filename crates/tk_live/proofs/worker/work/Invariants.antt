use Rattle.std.proofs.Common.{◌≤◌, ◌<◌, true, length, take}
use Rattle.tk_live.specs.Handed.{RanAll}
use Rattle.tk_live.proofs.worker.work.Given as goal

-- the lines so far were run
abbrev pub invariant-loop-i : goal.invariant-loop-i
invariant-loop-i g l = RanAll (take l.i l.lines) l.initial.wakers.items l.wakers.items × (l.i ≤ length l.lines) × (0 < l.i → g.G.Gate.answers l.gate l.k true)
