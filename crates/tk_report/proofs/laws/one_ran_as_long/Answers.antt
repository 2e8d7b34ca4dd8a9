use Rattle.tk_report.proofs.RunLemmas.{one_ran_as_long}
use Rattle.tk_report.proofs.laws.one_ran_as_long.Goals as goal

pub returns : goal.returns
returns c = one_ran_as_long
