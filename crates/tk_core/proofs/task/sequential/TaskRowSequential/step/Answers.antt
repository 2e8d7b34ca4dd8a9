use Rattle.tk_core.specs.Task.{task_kind}
use Rattle.tk_core.specs.Laws.Folded.{steps_to}
use Rattle.tk_core.proofs.task.sequential.TaskRowSequential.step.Goals as goal

pub returns : goal.returns
returns c opening calls is_opening at = steps_to task_kind _ _ _ c.step.ensures opening calls at
