use Rattle.tk_core.specs.Laws.TaskSteps.{follows}
use Rattle.tk_core.proofs.task.row.TaskRow.wake_by_value.Goals as goal

pub returns : goal.returns
returns c = follows _ _ _ (λ within. rw (c.woken.ensures, c.found_by_wake.ensures, c.saturating_add-drops.ensures))
