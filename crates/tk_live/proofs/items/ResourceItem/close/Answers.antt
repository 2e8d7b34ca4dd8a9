use Rattle.std.proofs.Common.{true, refl}
use Rattle.tk_core.specs.declared.reply.Refusal.TheVariants.{Closed}
use Rattle.tk_core.specs.declared.reply.Reply.TheVariants.{Done, Refused}
use Rattle.tk_core.specs.declared.resource.call.ResourceCall.TheVariants.{Close}
use Rattle.tk_live.specs.declared.items.ResourceItem.{ResourceItem}
use Rattle.tk_live.proofs.Calling.{resource_called, resource_open}
use Rattle.tk_live.proofs.Changing.{keeps_on}
use Rattle.tk_live.proofs.items.ResourceItem.close.Goals as goal

pub returns-in-Ok-clause-did : goal.returns-in-Ok-clause-did
returns-in-Ok-clause-did g c n p i =
    let old : ResourceItem = c.args.self.now in
    let call = Close c.args.moment in
    (refl, resource_called old (record old { callers = c.close.new.self; closed = true }) 0 call Done c.in-Ok.ensures.ok.1 refl refl c.close.ensures.id refl refl (λ q kept. keeps_on q old.values call refl kept) n p i)

pub returns-in-Err-clause-did : goal.returns-in-Err-clause-did
returns-in-Err-clause-did g c n p i =
    let err = c.in-Err.ensures.err in
    absurd (resource_open c.args.self.now c.close.new.self.token 0 (Close c.args.moment) (Refused Closed) err.2 c.requires err.1 n p i)
