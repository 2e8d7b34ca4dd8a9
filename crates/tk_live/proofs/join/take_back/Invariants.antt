use Rattle.std.proofs.Common.{List, length, ◌≤◌}
use Rattle.tk_live.specs.Handed.{Share, TakenBack, AllComeBack}
use Rattle.tk_live.specs.declared.items.TaskItem.{TaskItem}
use Rattle.tk_live.proofs.join.take_back.Given as goal

-- those after so many are back
abbrev pub invariant-loop-i : goal.invariant-loop-i
invariant-loop-i g l = ((share : Share) (before : List TaskItem) → TakenBack share l.wakers.items before (length l.wakers.items) l.initial.tasks.items → AllComeBack share l.wakers.items before (length l.wakers.items) l.initial.one.items l.initial.two.items
    → TakenBack share l.wakers.items before l.i l.tasks.items × AllComeBack share l.wakers.items before l.i l.one.items l.two.items) × (l.i ≤ length l.wakers.items)
