use Rattle.tk_core.specs.Times.{times_kind}
use Rattle.tk_core.specs.Laws.Folded.{steps_to}
use Rattle.tk_core.proofs.times.sequential.TimesRowSequential.step.Goals as goal

pub returns : goal.returns
returns c opening calls is_opening at = steps_to times_kind _ _ _ c.step.ensures opening calls at
