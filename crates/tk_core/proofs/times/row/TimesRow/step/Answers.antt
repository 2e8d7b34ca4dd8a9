use Rattle.std.proofs.Common.{refl}
use Rattle.tk_core.specs.Laws.TimesSteps.{follows}
use Rattle.tk_core.proofs.times.row.TimesRow.step.Goals as goal

pub returns-in-Read : goal.returns-in-Read
returns-in-Read c = rw c.in-Read.is (follows _ _ _ (λ within. refl))
