use Rattle.std.proofs.Common.{true, refl}
use Rattle.tk_core.specs.declared.op.call.OpCall.TheVariants.{Close}
use Rattle.tk_live.specs.declared.items.OpItem.{OpItem}
use Rattle.tk_live.proofs.Calling.{op_idle_did, op_idle_didnt}
use Rattle.tk_live.proofs.items.OpItem.close.Goals as goal

pub returns-in-Ok-clause-did : goal.returns-in-Ok-clause-did
returns-in-Ok-clause-did g c =
    let old : OpItem = c.args.self.now in
    op_idle_did old (record old { callers = c.close.new.self; closed = true }) (Close c.args.moment) c.requires c.in-Ok.ensures.ok.0 c.in-Ok.ensures.ok.1 c.close.ensures.id refl

pub returns-in-Err-clause-did : goal.returns-in-Err-clause-did
returns-in-Err-clause-did g c =
    let old : OpItem = c.args.self.now in
    op_idle_didnt old (record old { callers = c.close.new.self }) (Close c.args.moment) c.requires c.in-Err.refusal c.in-Err.ensures.err.0 c.in-Err.ensures.err.1
