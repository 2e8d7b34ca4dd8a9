use Rattle.std.proofs.Common.{◌≡◌}
use Rattle.tk_events_tests.proofs.tests.threads.take_beside.Given as goal

abbrev pub invariant-loop-turn : goal.invariant-loop-turn
invariant-loop-turn g l = l.taker.console ≡ l.initial.taker.console
