use Rattle.std.proofs.Common.{◌≡◌}
use Rattle.tk_exec.specs.Futures.{HearBelow}
use Rattle.tk_exec.proofs.executor.Executor+FutureWork+F.hear.Given as goal

abbrev pub invariant-loop-place : goal.invariant-loop-place
invariant-loop-place g l = HearBelow l.place l.initial.self.seats l.moment l.self.seats × (l.self.next ≡ l.initial.self.next)
