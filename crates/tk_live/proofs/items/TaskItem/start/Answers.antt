use Rattle.std.proofs.Common.{refl}
use Rattle.tk_core.specs.declared.task.call.TaskCall.TheVariants.{PollStart}
use Rattle.tk_live.specs.declared.items.TaskItem.{TaskItem}
use Rattle.tk_live.proofs.Calling.{idle_did, idle_didnt, starts_time}
use Rattle.tk_live.proofs.items.TaskItem.start.Goals as goal

pub returns-in-Ok-clause-did : goal.returns-in-Ok-clause-did
returns-in-Ok-clause-did g c =
    let old : TaskItem = c.args.self.now in
    let new : TaskItem = record old { callers = c.start_poll.new.self; started = c.args.moment } in
    idle_did old new (PollStart c.args.moment) c.requires c.in-Ok.ensures.ok.0 c.in-Ok.ensures.ok.1 c.start_poll.ensures.id refl (starts_time c.args.moment old new refl refl) refl

pub returns-in-Err-clause-did : goal.returns-in-Err-clause-did
returns-in-Err-clause-did g c =
    let old : TaskItem = c.args.self.now in
    idle_didnt old (record old { callers = c.start_poll.new.self }) (PollStart c.args.moment) c.requires c.in-Err.refusal c.in-Err.ensures.err.0 c.in-Err.ensures.err.1
