use Rattle.std.proofs.Common.{refl}
use Rattle.tk_core.specs.declared.op.call.OpCall.TheVariants.{Attr}
use Rattle.tk_core.specs.declared.reply.Reply.TheVariants.{Done, Refused}
use Rattle.tk_live.specs.Pasts.{op_values}
use Rattle.tk_live.specs.declared.items.OpItem.{OpItem}
use Rattle.tk_live.proofs.Calling.{op_called}
use Rattle.tk_live.proofs.Changing.{op_change_answered, done_goes, refused_stops}
use Rattle.tk_live.proofs.items.OpItem.change.Goals as goal

pub returns-in-Ok-clause-did : goal.returns-in-Ok-clause-did
returns-in-Ok-clause-did g c n p i =
    let old : OpItem = c.args.self.now in
    let index = c.args.index in
    let op = c.args.op in
    let made = c.in-Ok.ensures.ok in
    (done_goes index op (op_values p) (op_change_answered old c.change.new.self.token index op Done made c.requires n p i), op_called old (record old { callers = c.change.new.self }) 0 (Attr index op) Done made refl c.change.ensures.id refl n p i)

pub returns-in-Err-clause-did : goal.returns-in-Err-clause-did
returns-in-Err-clause-did g c n p i =
    let old : OpItem = c.args.self.now in
    let index = c.args.index in
    let op = c.args.op in
    let refusal = c.in-Err.refusal in
    refused_stops index op (op_values p) refusal (op_change_answered old c.change.new.self.token index op (Refused refusal) c.in-Err.ensures.err c.requires n p i)
