use Rattle.std.proofs.Common.{refl}
use Rattle.tk_core.specs.declared.op.call.OpCall.TheVariants.{PollStart}
use Rattle.tk_live.specs.declared.items.OpItem.{OpItem}
use Rattle.tk_live.proofs.Calling.{op_idle_did, op_idle_didnt}
use Rattle.tk_live.proofs.items.OpItem.start.Goals as goal

pub returns-in-Ok-clause-did : goal.returns-in-Ok-clause-did
returns-in-Ok-clause-did g c =
    let old : OpItem = c.args.self.now in
    op_idle_did old (record old { callers = c.start_poll.new.self }) (PollStart c.args.moment) c.requires c.in-Ok.ensures.ok.0 c.in-Ok.ensures.ok.1 c.start_poll.ensures.id refl

pub returns-in-Err-clause-did : goal.returns-in-Err-clause-did
returns-in-Err-clause-did g c =
    let old : OpItem = c.args.self.now in
    op_idle_didnt old (record old { callers = c.start_poll.new.self }) (PollStart c.args.moment) c.requires c.in-Err.refusal c.in-Err.ensures.err.0 c.in-Err.ensures.err.1
