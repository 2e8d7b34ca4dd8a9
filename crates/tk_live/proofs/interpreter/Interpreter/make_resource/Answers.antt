use Rattle.std.proofs.Common.{◌≡◌, ◌∷◌, ◌++◌, [], inr, refl, ap, sym, ◌∙◌, subst}
use Rattle.tk_core.specs.Resource.{opening_row, IsOpening}
use Rattle.tk_core.specs.declared.resource.call.ResourceCall.TheVariants.{Enlist}
use Rattle.tk_events.specs.Items.{owner_view, first_values}
use Rattle.tk_events.specs.Handles.{offers_made}
use Rattle.tk_live.specs.Runs.{numbers_of}
use Rattle.tk_script.specs.Commands as said
use Rattle.tk_live.specs.Stops.{StopReason}
use Rattle.tk_live.proofs.Making.{is_new_resource, resource_made}
use Rattle.tk_live.proofs.Recording.{unspent}
use Rattle.tk_live.proofs.interpreter.Interpreter.make_resource.Goals as goal

pub returns-in-Ok-resource : goal.returns-in-Ok-resource
returns-in-Ok-resource g c settings k kept sent stands =
    let i = c.args.self.now in
    let e = c.in-Ok-resource.ensures in
    let left : offers_made i.recorder ≡ i.recorder.limit → ⊥ = λ h. let bad = e.spent.1 h in absurd cc in
    let owner = c.in-Ok-resource.owner in
    let item = c.in_ok-item-in-Ok-resource.item in
    let kept_is = c.in_ok-item-in-Ok-resource.ensures in
    let called = kept_is.called (opening_row c.args.created (first_values c.args.attrs)) (e.owner ∙ ap (λ a. owner_view Enlist (opening_row c.args.created (first_values a))) c.in-Ok-spec_of.ensures.4) in
    let one = resource_made i _ settings k kept sent stands e.same left c.in-Ok-resource._became e.alone c.in-Ok-spec_of.spec owner item c.args.line c.args.created c.args.kind.now c.args.concrete.now c.args.attrs e.kept e.refused c.in-Ok-spec_of.ensures
    (λ n at. is_new_resource item owner.id c.args.created n c.args.attrs kept_is.id kept_is.open kept_is.user at (kept_is.values ∙ c.in-Ok.ensures.row) (subst (λ row. IsOpening row) (sym kept_is.values) c.in-Ok.ensures.opens) called) e.id kept_is.ledger refl (c.push_reserved.ensures.items ∙ ap (λ l. l ++ item ∷ []) c.in_default-reserve.ensures.items) in
    (unspent i.recorder settings.capacity (numbers_of k.pasts) k kept stands.offered left, one.0 ∷ [], one.1)
