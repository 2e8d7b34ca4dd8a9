use Rattle.tk_core.specs.Op.{op_kind}
use Rattle.tk_core.specs.Laws.Folded.{steps_to}
use Rattle.tk_core.proofs.op.sequential.OpRowSequential.step.Goals as goal

pub returns : goal.returns
returns c opening calls is_opening at = steps_to op_kind _ _ _ c.step.ensures opening calls at
