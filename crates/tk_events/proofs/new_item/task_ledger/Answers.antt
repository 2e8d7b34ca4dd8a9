use Rattle.std.proofs.Common.{refl, sym, ◌∙◌}
use Rattle.tk_core.specs.declared.task.call.TaskCall.TheVariants.{Enlist}
use Rattle.tk_core.specs.TaskMeaning.{task_meaning}
use Rattle.tk_events.proofs.NewItemLemmas.{task_first, owner_is, inspector_is, only_memory}
use Rattle.tk_events.proofs.new_item.task_ledger.Goals as goal

pub unreachable-requires : goal.unreachable-requires
unreachable-requires g c = only_memory task_meaning c.args.opening Enlist (task_first c.args.opening) (λ n. refl) c.in-Ok.owner.token c.inspect.new.self.token c.in-Err-inspect.refusal c.in-Ok.ensures.opened (λ e. let told = sym c.ne.ensures ∙ c.if-ne.true in let false_is_true = rw e at told in absurd cc) c.in-Err-inspect.ensures.err

pub returns-in-Ok-inspect-clause-owner : goal.returns-in-Ok-inspect-clause-owner
returns-in-Ok-inspect-clause-owner g c = owner_is task_meaning c.args.opening Enlist (task_first c.args.opening) (λ n. refl) c.in-Ok.owner.token c.inspect.new.self.token c.in-Ok-inspect.inspector.token c.in-Ok.ensures.opened c.in-Ok-inspect.ensures.ok

pub returns-in-Ok-inspect-clause-inspector : goal.returns-in-Ok-inspect-clause-inspector
returns-in-Ok-inspect-clause-inspector g c = inspector_is task_meaning c.args.opening Enlist (task_first c.args.opening) (λ n. refl) c.in-Ok.owner.token c.inspect.new.self.token c.in-Ok-inspect.inspector.token c.in-Ok.ensures.opened c.in-Ok-inspect.ensures.ok
