use Rattle.std.proofs.Common.{sym, subst}
use Rattle.tk_core.specs.declared.reply.Reply.{Reply}
use Rattle.tk_core.specs.declared.resource.row.ResourceRow.{ResourceRow}
use Rattle.tk_core.specs.declared.resource.call.ResourceCall.TheVariants.{Close}
use Rattle.tk_core.specs.declared.reply.Reply.TheVariants.{Done}
use Rattle.tk_core.specs.ResourceMeaning.{resource_meaning}
use Rattle.tk_cell.specs.Calls.{Calls}
use Rattle.tk_ledgers.specs.Resources.{ResourceSight}
use Rattle.tk_ledgers.proofs.ResourceCloseLemmas.{is_closed}
use Rattle.tk_ledgers.proofs.resource.owner.ResourceOwner.close.Goals as goal

pub returns-clause-entry : goal.returns-clause-entry
returns-clause-entry g c =
    let token = c.last_call-token.result.1 in let reply = c.last_call-token.result.0 in
    let done = is_closed c.self.inside.handle.view c.args.moment reply token.view c.last_call-token.ensures.entry c.last_call-token.ensures.role c.self.invariant in
    subst (λ (t : ResourceSight). Calls resource_meaning c.args.self.token.view (Close c.args.moment) Done t.token.view) (sym c.new.ensures)
    (subst (λ (h : ResourceSight). Calls resource_meaning h.token.view (Close c.args.moment) Done token.view) c.self.view_is
    (subst (λ (r : Reply ResourceRow). Calls resource_meaning c.self.inside.handle.view (Close c.args.moment) r token.view) done c.last_call-token.ensures.entry))
