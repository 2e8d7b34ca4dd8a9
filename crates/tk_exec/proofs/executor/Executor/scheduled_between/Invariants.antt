use Rattle.std.proofs.Common.{◌≡◌, ◌≤◌, length}
use Rattle.tk_exec.specs.Turns.{Passed}
use Rattle.tk_exec.proofs.executor.Executor.scheduled_between.Given as goal

abbrev pub invariant-loop-place : goal.invariant-loop-place
invariant-loop-place g l = Passed l.first l.place l.initial.self.seats l.self.seats × (l.self.next ≡ l.initial.self.next) × (l.last ≤ length l.initial.self.seats) × (l.first ≤ l.place) × (l.place ≤ l.last)
