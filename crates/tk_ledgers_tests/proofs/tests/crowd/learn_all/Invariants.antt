use Rattle.std.proofs.Common.{◌≡◌, All}
use Rattle.tk_ledgers_tests.proofs.tests.crowd.learn_all.Given as goal

abbrev pub invariant-loop-learnt : goal.invariant-loop-learnt
invariant-loop-learnt g l = (l.inspector.token.ledger ≡ l.initial.inspector.token.ledger) × All (λ r. r.token.ledger ≡ l.initial.inspector.token.ledger) l.receipts.items
