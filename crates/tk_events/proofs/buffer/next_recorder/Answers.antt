use Rattle.tk_events.proofs.BufferLemmas.{forks_make}
use Rattle.tk_events.proofs.buffer.next_recorder.Goals as goal

pub another-requires-clause-rule : goal.another-requires-clause-rule
another-requires-clause-rule c = forks_make _ _ c.requires.role c.requires.room
