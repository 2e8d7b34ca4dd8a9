use Rattle.std.proofs.Common.{refl}
use Rattle.tk_core.specs.declared.resource.call.ResourceCall.TheVariants.{Enlist}
use Rattle.tk_core.specs.ResourceMeaning.{resource_meaning}
use Rattle.tk_ledgers.proofs.ToldLemmas.{draws_alone}
use Rattle.tk_ledgers_tests.proofs.tests.callers.resource_in_one_hand.Goals as goal

pub into_callers-requires : goal.into_callers-requires
into_callers-requires g c = record { alone = draws_alone resource_meaning (λ n. refl) c.args.owner.token c.inspect.new.self.token c.in-Ok.inspector.token Enlist c.in-Ok.ensures.ok c.requires }
