use Rattle.tk_core.specs.Laws.TaskSteps.{follows}
use Rattle.tk_core.proofs.task.row.TaskRow.release.Goals as goal

pub returns : goal.returns
returns c = follows _ _ _ (λ within. cc)
