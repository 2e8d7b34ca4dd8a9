use Rattle.std.proofs.Common.{◌≡◌}
use Rattle.tk_events_tests.proofs.tests.threads.offer_polls.Given as goal

abbrev pub invariant-loop-above : goal.invariant-loop-above
invariant-loop-above g l = l.recorder.console ≡ l.initial.recorder.console
