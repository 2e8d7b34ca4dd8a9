use Rattle.tk_ledgers.proofs.CalledLemmas.{tasks_tell_called, resources_tell_called, ops_tell_called}
use Rattle.tk_ledgers.proofs.laws.what_a_hand_called_tells_of_its_polls.Goals as goal

pub returns : goal.returns
returns c = record { tasks = tasks_tell_called; resources = resources_tell_called; ops = ops_tell_called }
