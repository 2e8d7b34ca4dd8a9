use Rattle.tk_sites.proofs.TimedNames.{until_names}
use Rattle.tk_sites.proofs.laws.lasting_sums_stand_with_sums.Goals as goal

pub returns : goal.returns
returns c = until_names
