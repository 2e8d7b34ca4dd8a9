use Rattle.tk_events.proofs.BufferLemmas.{balances}
use Rattle.tk_events.proofs.buffer.settle.Goals as goal

pub learn_as-requires-clause-rule : goal.learn_as-requires-clause-rule
learn_as-requires-clause-rule c = balances _ _ c.requires.role
