use Rattle.tk_events.proofs.BufferLemmas.{merges}
use Rattle.tk_events.proofs.buffer.take_in.Goals as goal

pub absorb-requires-clause-rule : goal.absorb-requires-clause-rule
absorb-requires-clause-rule c = merges _ _ _ _ c.requires.role c.requires.other_role
