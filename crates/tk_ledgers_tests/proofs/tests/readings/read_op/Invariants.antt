use Rattle.std.proofs.Common.{◌≡◌}
use Rattle.tk_ledgers_tests.proofs.tests.readings.read_op.Given as goal

abbrev pub invariant-loop-turn : goal.invariant-loop-turn
invariant-loop-turn g l = l.inspector.token.ledger ≡ l.initial.inspector.token.ledger
