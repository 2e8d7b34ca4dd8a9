use Rattle.tk_events.proofs.BufferLemmas.{pushes, contents}
use Rattle.tk_events.proofs.buffer.offer.Goals as goal

pub push_as-requires-clause-rule : goal.push_as-requires-clause-rule
push_as-requires-clause-rule g c = (pushes _ _ _ _ c.requires.role c.requires.number c.requires.above, contents _ _ c.requires.role)
