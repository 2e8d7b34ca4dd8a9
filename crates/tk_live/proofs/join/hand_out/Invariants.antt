use Rattle.std.proofs.Common.{◌≤◌, length}
use Rattle.tk_live.specs.Handed.{HandedOut}
use Rattle.tk_live.proofs.join.hand_out.Given as goal

-- so many wakers were handed out, or stayed
abbrev pub invariant-loop-i : goal.invariant-loop-i
invariant-loop-i l = HandedOut l.block.first l.block.second l.wakers.items l.initial.tasks.items l.i l.tasks.items l.one.items l.two.items × (l.i ≤ length l.wakers.items)
