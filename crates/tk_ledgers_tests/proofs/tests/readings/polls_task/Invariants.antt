use Rattle.std.proofs.Common.{◌≡◌}
use Rattle.tk_ledgers_tests.proofs.tests.readings.polls_task.Given as goal

abbrev pub invariant-loop-moment : goal.invariant-loop-moment
invariant-loop-moment g l = l.owner.token.ledger ≡ l.initial.owner.token.ledger
