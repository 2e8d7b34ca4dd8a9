use Rattle.std.proofs.Common.{refl}
use Rattle.tk_core.specs.Laws.OpSteps.{follows}
use Rattle.tk_core.proofs.op.row.OpRow.step.Goals as goal

pub returns-in-Read : goal.returns-in-Read
returns-in-Read c = rw c.in-Read.is (follows _ _ _ (λ within. refl))
