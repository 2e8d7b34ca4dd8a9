use Rattle.std.proofs.Common.{◌≡◌}
use Rattle.tk_ledgers_tests.proofs.tests.readings.adds_on.Given as goal

abbrev pub invariant-loop-turn : goal.invariant-loop-turn
invariant-loop-turn g l = l.user.token.ledger ≡ l.initial.user.token.ledger
