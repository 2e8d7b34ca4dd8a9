use Rattle.tk_ledgers.proofs.ToldLemmas.{tasks_tell, resources_tell, ops_tell}
use Rattle.tk_ledgers.proofs.laws.a_hand_tells_of_its_polls.Goals as goal

pub returns : goal.returns
returns c = record { tasks = tasks_tell; resources = resources_tell; ops = ops_tell }
