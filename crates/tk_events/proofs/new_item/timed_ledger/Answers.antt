use Rattle.std.proofs.Common.{refl, ap, sym, ◌∙◌}
use Rattle.tk_core.specs.declared.reply.Reply.{Reply}
use Rattle.tk_core.specs.declared.task.call.TaskCall.{TaskCall}
use Rattle.tk_core.specs.declared.task.call.TaskCall.TheVariants.{Enlist}
use Rattle.tk_core.specs.declared.task.row.TaskRow.{TaskRow}
use Rattle.tk_core.specs.TaskMeaning.{task_meaning}
use Rattle.tk_cell.specs.Views.{Known}
use Rattle.tk_ledgers.specs.Tasks.{TaskSight}
use Rattle.tk_events.proofs.NewItemLemmas.{task_first, owner_is, inspector_is, only_memory}
use Rattle.tk_events.proofs.new_item.timed_ledger.Goals as goal

pub unreachable-requires : goal.unreachable-requires
unreachable-requires g c = only_memory task_meaning c.args.opening Enlist (task_first c.args.opening) (λ n. refl) c.in-Ok.owner.token c.inspect.new.self.token c.in-Err-inspect.refusal c.in-Ok.ensures.opened (λ e. let told = sym c.ne.ensures ∙ c.if-ne.true in let false_is_true = rw e at told in absurd cc) c.in-Err-inspect.ensures.err

pub returns-in-Some-clause-owner : goal.returns-in-Some-clause-owner
returns-in-Some-clause-owner g c = ap (λ (t : Known TaskRow TaskCall (Reply TaskRow)). t.view) c.in-Some.ensures.token
    ∙ owner_is task_meaning c.args.opening Enlist (task_first c.args.opening) (λ n. refl) c.in-Ok.owner.token c.inspect.new.self.token c.in-Ok-inspect.inspector.token c.in-Ok.ensures.opened c.in-Ok-inspect.ensures.ok

pub returns-in-Some-clause-inspector : goal.returns-in-Some-clause-inspector
returns-in-Some-clause-inspector g c = ap (λ (h : TaskSight). h.token.view) c.with_times.ensures
    ∙ inspector_is task_meaning c.args.opening Enlist (task_first c.args.opening) (λ n. refl) c.in-Ok.owner.token c.inspect.new.self.token c.in-Ok-inspect.inspector.token c.in-Ok.ensures.opened c.in-Ok-inspect.ensures.ok
