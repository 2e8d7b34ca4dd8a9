use Rattle.std.proofs.Common.{refl}
use Rattle.tk_core.specs.declared.op.call.OpCall.TheVariants.{Enlist}
use Rattle.tk_core.specs.OpMeaning.{op_meaning}
use Rattle.tk_ledgers.proofs.ToldLemmas.{draws_alone}
use Rattle.tk_ledgers_tests.proofs.tests.callers.op_in_one_hand.Goals as goal

pub into_callers-requires : goal.into_callers-requires
into_callers-requires g c = record { alone = draws_alone op_meaning (λ n. refl) c.args.owner.token c.inspect.new.self.token c.in-Ok.inspector.token Enlist c.in-Ok.ensures.ok c.requires }
