use Rattle.tk_ledgers.proofs.BesideLemmas.{tasks_show, resources_show, ops_show}
use Rattle.tk_ledgers.proofs.laws.a_reading_beside_shows_the_calls.Goals as goal

pub returns : goal.returns
returns c = record { tasks = tasks_show; resources = resources_show; ops = ops_show }
