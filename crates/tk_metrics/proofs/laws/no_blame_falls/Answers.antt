use Rattle.tk_metrics.proofs.HeldLemmas.{held_rises, shares_rise}
use Rattle.tk_metrics.proofs.laws.no_blame_falls.Goals as goal

pub returns-clause-held : goal.returns-clause-held
returns-clause-held c = λ limits place shown tables. held_rises limits place shown tables

pub returns-clause-waited : goal.returns-clause-waited
returns-clause-waited c = λ limits shown tables. shares_rise limits shown tables
