use Rattle.std.proofs.Common.{[], ◌∷◌, refl, ap, sym, ◌∙◌, subst}
use Rattle.tk_core.specs.declared.reply.Refusal.{Refusal}
use Rattle.tk_core.specs.declared.reply.Refusal.TheVariants.{HandlesSpent}
use Rattle.tk_core.specs.declared.reply.Reply.{Reply}
use Rattle.tk_core.specs.declared.reply.Reply.TheVariants.{Number}
use Rattle.tk_core.specs.declared.resource.call.ResourceCall.{ResourceCall}
use Rattle.tk_core.specs.declared.resource.call.ResourceCall.TheVariants.{Enlist}
use Rattle.tk_core.specs.declared.resource.row.ResourceRow.{ResourceRow}
use Rattle.tk_core.specs.ResourceMeaning.{resource_meaning}
use Rattle.tk_cell.specs.declared.view.View.{View}
use Rattle.tk_ledgers.specs.Called.{HasCalled}
use Rattle.tk_ledgers.specs.Resources.{ResourceSight}
use Rattle.tk_ledgers.proofs.CalledLemmas.{calls_are_called, owner_called}
use Rattle.tk_script.specs.declared.stop.Stop.TheVariants.{Call}
use Rattle.tk_live.proofs.Calling.{is_reply}
use Rattle.tk_live.proofs.interpreter.resources.item_of.Goals as goal

pub returns-in-Ok-clause-called : goal.returns-in-Ok-clause-called
returns-in-Ok-clause-called g c row is =
    let hand = c.into_callers-callers in
    let was = subst (λ (v : View ResourceRow ResourceCall (Reply ResourceRow)). HasCalled resource_meaning (1 ∷ []) row (Enlist ∷ []) v) (sym (ap (λ (h : ResourceSight). h.token.view) hand.ensures ∙ is)) (owner_called resource_meaning (λ n. refl) Enlist row) in
    calls_are_called resource_meaning hand.result.token c.user.new.self.token 0 Enlist (Number c.in-Ok.user) (1 ∷ []) row (Enlist ∷ []) c.in-Ok.ensures.ok refl was

pub returns-in-Err-clause-err : goal.returns-in-Err-clause-err
returns-in-Err-clause-err g c =
    let hand = c.into_callers-callers in (
      ap (λ (r : Refusal). Call r) c.in-Err.ensures.err.0,
      λ row is. is_reply resource_meaning hand.result.token c.user.new.self.token 0 Enlist HandlesSpent row c.in-Err.ensures.err.1
          (ap (λ (h : ResourceSight). h.token.view.opening) hand.ensures ∙ ap (λ (v : View ResourceRow ResourceCall (Reply ResourceRow)). v.opening) is),
    )
