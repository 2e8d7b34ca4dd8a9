use Rattle.std.proofs.Common.{refl, sym, ◌∙◌}
use Rattle.tk_core.specs.Op.{opening_row as op_row}
use Rattle.tk_core.specs.declared.op.call.OpCall.TheVariants.{Enlist}
use Rattle.tk_core.specs.OpMeaning.{op_meaning}
use Rattle.tk_events.proofs.NewItemLemmas.{op_first, owner_is, inspector_is, only_memory}
use Rattle.tk_events.proofs.new_item.op_ledger.Goals as goal

pub unreachable-requires : goal.unreachable-requires
unreachable-requires g c = only_memory op_meaning (op_row c.args.created c.args.values.now) Enlist (op_first c.args.created c.args.values.now) (λ n. refl) c.in-Ok.owner.token c.inspect.new.self.token c.in-Err-inspect.refusal c.in-Ok.ensures.opened (λ e. let told = sym c.ne.ensures ∙ c.if-ne.true in let false_is_true = rw e at told in absurd cc) c.in-Err-inspect.ensures.err

pub returns-in-Ok-inspect-clause-owner : goal.returns-in-Ok-inspect-clause-owner
returns-in-Ok-inspect-clause-owner g c = owner_is op_meaning (op_row c.args.created c.args.values.now) Enlist (op_first c.args.created c.args.values.now) (λ n. refl) c.in-Ok.owner.token c.inspect.new.self.token c.in-Ok-inspect.inspector.token c.in-Ok.ensures.opened c.in-Ok-inspect.ensures.ok

pub returns-in-Ok-inspect-clause-inspector : goal.returns-in-Ok-inspect-clause-inspector
returns-in-Ok-inspect-clause-inspector g c = inspector_is op_meaning (op_row c.args.created c.args.values.now) Enlist (op_first c.args.created c.args.values.now) (λ n. refl) c.in-Ok.owner.token c.inspect.new.self.token c.in-Ok-inspect.inspector.token c.in-Ok.ensures.opened c.in-Ok-inspect.ensures.ok
