use Rattle.std.proofs.Common.{true, refl}
use Rattle.tk_core.specs.declared.task.call.TaskCall.TheVariants.{Close}
use Rattle.tk_live.specs.declared.items.TaskItem.{TaskItem}
use Rattle.tk_live.proofs.Calling.{idle_did, idle_didnt, leaves_time}
use Rattle.tk_live.proofs.items.TaskItem.close.Goals as goal

pub returns-in-Ok-clause-did : goal.returns-in-Ok-clause-did
returns-in-Ok-clause-did g c =
    let old : TaskItem = c.args.self.now in
    let new : TaskItem = record old { callers = c.close.new.self; closed = true } in
    idle_did old new (Close c.args.moment) c.requires c.in-Ok.ensures.ok.0 c.in-Ok.ensures.ok.1 c.close.ensures.id refl (leaves_time (Close c.args.moment) old new refl refl refl refl) refl

pub returns-in-Err-clause-did : goal.returns-in-Err-clause-did
returns-in-Err-clause-did g c =
    let old : TaskItem = c.args.self.now in
    idle_didnt old (record old { callers = c.close.new.self }) (Close c.args.moment) c.requires c.in-Err.refusal c.in-Err.ensures.err.0 c.in-Err.ensures.err.1
