use Rattle.tk_sites.proofs.TimedNames.{same_names}
use Rattle.tk_sites.proofs.laws.times_stand_with_sums.Goals as goal

pub returns : goal.returns
returns c = same_names
