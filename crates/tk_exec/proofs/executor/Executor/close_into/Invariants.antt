use Rattle.std.proofs.Common.{◌≤◌, ◌+◌, ◌++◌, List, length}
use Rattle.std.specs.Vec.{vec_len, vec_capacity}
use Rattle.tk_ledgers.specs.Tasks.{TaskSight}
use Rattle.tk_exec.specs.Places.{values_at, AreKept}
use Rattle.tk_exec.specs.Seats.{AreClosedAt}
use Rattle.tk_exec.proofs.executor.Executor.close_into.Given as goal

abbrev pub invariant-loop-key : goal.invariant-loop-key
invariant-loop-key g l = AreKept l.tasks.slots l.key-iterator
    × ((rest : List TaskSight) → AreClosedAt l.moment (values_at l.tasks.slots l.key-iterator) rest → AreClosedAt l.moment (values_at l.initial.tasks.slots l.initial.key-iterator) (l.receipts.items ++ rest))
    × (vec_len l.receipts + length l.key-iterator ≤ vec_capacity l.receipts)
