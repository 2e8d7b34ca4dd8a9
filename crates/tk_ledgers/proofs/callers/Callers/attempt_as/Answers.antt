use Rattle.tk_ledgers.proofs.HandLemmas.{attempt_draws_none}
use Rattle.tk_ledgers.proofs.callers.Callers.attempt_as.Goals as goal

pub call_as-requires-clause-draws : goal.call_as-requires-clause-draws
call_as-requires-clause-draws g c = attempt_draws_none g.O.Sequential.meaning c.requires.plain g.K.Role.role c.args.call c.requires.form
