use Rattle.std.proofs.Common.{◌≡◌, true, false, OnOk, IfErr, subst}
use Rattle.tk_core.specs.declared.reply.Refusal.TheVariants.{Closed}
use Rattle.tk_core.specs.declared.reply.Reply.TheVariants.{Done, Refused}
use Rattle.tk_core.specs.declared.resource.call.ResourceCall.TheVariants.{Close, Enlist}
use Rattle.tk_core.specs.ResourceMeaning.{resource_meaning}
use Rattle.tk_ledgers.specs.Callers.{CallsAs}
use Rattle.tk_ledgers.specs.Handles.{made_by}
use Rattle.tk_ledgers.specs.Resources.{ResourceSight, is_closed}
use Rattle.tk_ledgers.proofs.ResourceCloseLemmas.{hand_closed, hand_not_closed}
use Rattle.tk_ledgers.proofs.resource.callers.ResourceCallers.close.Goals as goal

pub returns-clause-ok : goal.returns-clause-ok
returns-clause-ok g c =
    subst (λ (h : ResourceSight). OnOk c.attempt_as.result ((is_closed h ≡ false) × CallsAs resource_meaning h.token 0 (Close c.args.moment) Done c.attempt_as.new.self)) c.self.view_is
    (hand_closed (made_by Enlist) c.self.inside.callers c.attempt_as.new.self c.attempt_as.ensures.hand c.args.moment c.attempt_as.result c.attempt_as.ensures.ok)

pub returns-clause-err : goal.returns-clause-err
returns-clause-err g c =
    subst (λ (h : ResourceSight). IfErr c.attempt_as.result (λ r. (r ≡ Closed) × (is_closed h ≡ true) × CallsAs resource_meaning h.token 0 (Close c.args.moment) (Refused Closed) c.attempt_as.new.self)) c.self.view_is
    (hand_not_closed (made_by Enlist) c.self.inside.callers c.attempt_as.new.self c.attempt_as.ensures.hand c.args.moment c.attempt_as.result c.attempt_as.ensures.err)
