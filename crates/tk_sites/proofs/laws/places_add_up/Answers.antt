use Rattle.tk_sites.proofs.TotalLemmas.{came_shown, left_shown, rows_shown}
use Rattle.tk_sites.proofs.laws.places_add_up.Goals as goal

pub returns-clause-rows : goal.returns-clause-rows
returns-clause-rows c = rows_shown

pub returns-clause-came : goal.returns-clause-came
returns-clause-came c = came_shown

pub returns-clause-left : goal.returns-clause-left
returns-clause-left c = left_shown
