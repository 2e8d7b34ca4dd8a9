use Rattle.tk_sites.proofs.TimedTotals.{polls_shown, waits_shown}
use Rattle.tk_sites.proofs.laws.times_add_up.Goals as goal

pub returns-clause-polls : goal.returns-clause-polls
returns-clause-polls c = polls_shown

pub returns-clause-waits : goal.returns-clause-waits
returns-clause-waits c = waits_shown
