use Rattle.std.proofs.Common.{refl, subst}
use Rattle.tk_core.specs.declared.reply.Reply.{Reply}
use Rattle.tk_core.specs.declared.op.row.OpRow.{OpRow}
use Rattle.tk_core.specs.declared.op.call.OpCall.TheVariants.{SetTask}
use Rattle.tk_core.specs.declared.reply.Reply.TheVariants.{Done}
use Rattle.tk_core.specs.OpMeaning.{op_meaning}
use Rattle.tk_cell.specs.Calls.{Calls}
use Rattle.tk_ledgers.specs.Ops.{OpSight}
use Rattle.tk_ledgers.proofs.PollLemmas.{kept}
use Rattle.tk_ledgers.proofs.OpPollLemmas.{op_polls, task_is_set}
use Rattle.tk_ledgers.proofs.op.owner.OpOwner.set_task.Goals as goal

pub invariant_of-self : goal.invariant_of-self
invariant_of-self g c = kept op_polls c.self.inside.handle.view (SetTask c.args.task) c.call.result c.call.new.self.view c.call.ensures.entry c.call.ensures.role (refl, refl) c.self.inside.polling c.self.invariant

pub returns-clause-entry : goal.returns-clause-entry
returns-clause-entry g c =
    let done = task_is_set c.self.inside.handle.view c.args.task c.call.result c.call.new.self.view c.call.ensures.entry c.call.ensures.role c.self.inside.polling c.self.invariant in
    subst (λ (h : OpSight). Calls op_meaning h.token.view (SetTask c.args.task) Done c.call.new.self.view) c.self.view_is
    (subst (λ (r : Reply OpRow). Calls op_meaning c.self.inside.handle.view (SetTask c.args.task) r c.call.new.self.view) done c.call.ensures.entry)
