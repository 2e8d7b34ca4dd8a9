use Rattle.std.proofs.Common.{◌≡◌, ◌≤◌, ◌+◌, ◌++◌, length}
use Rattle.std.specs.Vec.{vec_len, vec_capacity}
use Rattle.tk_exec.specs.Places.{values_at, AreKept}
use Rattle.tk_exec.specs.Seats.{outputs_of}
use Rattle.tk_exec.proofs.executor.Executor.into_outputs.Given as goal

abbrev pub invariant-loop-key : goal.invariant-loop-key
invariant-loop-key g l = AreKept l.tasks.slots l.key-iterator
    × (l.outputs.items ++ outputs_of (values_at l.tasks.slots l.key-iterator) ≡ l.initial.outputs.items ++ outputs_of (values_at l.initial.tasks.slots l.initial.key-iterator))
    × (vec_len l.outputs + length l.key-iterator ≤ vec_capacity l.outputs)
