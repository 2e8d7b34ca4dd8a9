use Rattle.tk_core.specs.Resource.{resource_kind}
use Rattle.tk_core.specs.Laws.Folded.{steps_to}
use Rattle.tk_core.proofs.resource.sequential.ResourceRowSequential.step.Goals as goal

pub returns : goal.returns
returns c opening calls is_opening at = steps_to resource_kind _ _ _ c.step.ensures opening calls at
