use Rattle.std.proofs.Common.{refl}
use Rattle.tk_core.specs.declared.op.call.OpCall.TheVariants.{SetTask}
use Rattle.tk_core.specs.declared.reply.Reply.TheVariants.{Done, Refused}
use Rattle.tk_ledgers.specs.Ops.{is_closed}
use Rattle.tk_live.specs.declared.items.OpItem.{OpItem}
use Rattle.tk_live.proofs.Calling.{op_called, op_told, open_goes}
use Rattle.tk_live.proofs.items.OpItem.set_task.Goals as goal

pub returns-in-Ok-clause-did : goal.returns-in-Ok-clause-did
returns-in-Ok-clause-did g c n p i =
    let old : OpItem = c.args.self.now in
    (refl, op_called old (record old { callers = c.set_task.new.self }) 0 (SetTask c.args.task) Done c.in-Ok.ensures.ok.1 refl c.set_task.ensures.id refl n p i)

pub returns-in-Err-clause-did : goal.returns-in-Err-clause-did
returns-in-Err-clause-did g c n p i =
    let old : OpItem = c.args.self.now in
    let err = c.in-Err.ensures.err in
    absurd (open_goes (is_closed old.callers) c.in-Err.refusal err.0 (op_told old c.set_task.new.self.token 0 (SetTask c.args.task) (Refused c.in-Err.refusal) err.1 c.requires n p i).1)
