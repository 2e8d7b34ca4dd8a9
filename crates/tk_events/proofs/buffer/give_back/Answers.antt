use Rattle.tk_events.proofs.BufferLemmas.{forks_give_back}
use Rattle.tk_events.proofs.buffer.give_back.Goals as goal

pub another-requires-clause-rule : goal.another-requires-clause-rule
another-requires-clause-rule c = forks_give_back _ _ c.requires.role
