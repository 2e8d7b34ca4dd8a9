use Rattle.tk_until.proofs.Fronts.{front_ends}
use Rattle.tk_until.proofs.laws.a_front_ends_at_a_later_line.Goals as goal

pub returns : goal.returns
returns c = front_ends
