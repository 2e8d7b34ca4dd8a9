use Rattle.tk_events.proofs.BufferLemmas.{forks_note}
use Rattle.tk_events.proofs.buffer.note.Goals as goal

pub another-requires-clause-rule : goal.another-requires-clause-rule
another-requires-clause-rule g c = forks_note _ _ g.K.Pick.picked c.requires.role
