use Rattle.std.proofs.Common.{◌≡◌, take}
use Rattle.tk_odd.specs.Waiting as spec
use Rattle.tk_odd.proofs.waiting.Waiting.of.Given as goal

-- those so far
abbrev pub invariant-loop-place : goal.invariant-loop-place
invariant-loop-place l = l.waiting ≡ spec.waiting_of l.tables.now (take l.place l.tables.tasks)
