use Rattle.tk_report.proofs.RunLemmas.{open_is_known}
use Rattle.tk_report.proofs.laws.open_polls_are_known.Goals as goal

pub returns : goal.returns
returns c = open_is_known
