use Rattle.tk_events.proofs.BufferLemmas.{forks_lend}
use Rattle.tk_events.proofs.buffer.lend.Goals as goal

pub another-requires-clause-rule : goal.another-requires-clause-rule
another-requires-clause-rule c = forks_lend _ _
