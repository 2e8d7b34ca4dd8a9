use Rattle.std.proofs.Common.{refl}
use Rattle.tk_core.specs.declared.task.call.TaskCall.TheVariants.{Enlist}
use Rattle.tk_core.specs.TaskMeaning.{task_meaning}
use Rattle.tk_ledgers.proofs.ToldLemmas.{draws_alone}
use Rattle.tk_ledgers_tests.proofs.tests.callers.in_one_hand.Goals as goal

pub into_callers-requires-clause-alone : goal.into_callers-requires-clause-alone
into_callers-requires-clause-alone g c = draws_alone task_meaning (λ n. refl) c.args.owner.token c.inspect.new.self.token c.in-Ok.inspector.token Enlist c.in-Ok.ensures.ok c.requires.alone
