use Rattle.std.proofs.Common.{refl}
use Rattle.tk_core.specs.OpMeaning.{op_meaning}
use Rattle.tk_core.specs.ResourceMeaning.{resource_meaning}
use Rattle.tk_core.specs.TaskMeaning.{task_meaning}
use Rattle.tk_ledgers.proofs.ToldLemmas.{draws_alone}
use Rattle.tk_ledgers.proofs.laws.an_owner_stays_alone.Goals as goal

pub returns : goal.returns
returns c = record { tasks = draws_alone task_meaning (λ n. refl); resources = draws_alone resource_meaning (λ n. refl); ops = draws_alone op_meaning (λ n. refl) }
