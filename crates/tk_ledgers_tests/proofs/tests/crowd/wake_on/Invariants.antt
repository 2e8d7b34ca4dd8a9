use Rattle.std.proofs.Common.{◌≡◌}
use Rattle.tk_ledgers_tests.proofs.tests.crowd.wake_on.Given as goal

abbrev pub invariant-loop-moment : goal.invariant-loop-moment
invariant-loop-moment g l = l.waker.token.ledger ≡ l.initial.waker.token.ledger
