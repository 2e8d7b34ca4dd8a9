use Rattle.std.proofs.Common.{◌≡◌, All}
use Rattle.tk_ledgers_tests.proofs.tests.crowd.wakers.Given as goal

abbrev pub invariant-loop-made : goal.invariant-loop-made
invariant-loop-made g l = (l.owner.token.ledger ≡ l.initial.owner.token.ledger) × All (λ w. w.token.ledger ≡ l.initial.owner.token.ledger) l.wakers.items
