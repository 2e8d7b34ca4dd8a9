use Rattle.tk_until.proofs.Fronts.{begins}
use Rattle.tk_until.proofs.laws.a_stream_begins_with_its_front.Goals as goal

pub returns : goal.returns
returns c = begins
