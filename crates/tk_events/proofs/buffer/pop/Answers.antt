use Rattle.tk_events.proofs.BufferLemmas.{pops, balances}
use Rattle.tk_events.proofs.buffer.pop.Goals as goal

pub pop_as-requires-clause-rule : goal.pop_as-requires-clause-rule
pop_as-requires-clause-rule g c = (pops _ _ c.requires.role, balances _ _ c.requires.role)
