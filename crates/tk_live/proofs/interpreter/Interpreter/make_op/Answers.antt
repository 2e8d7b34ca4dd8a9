use Rattle.std.proofs.Common.{◌≡◌, ◌∷◌, ◌++◌, [], Err, inl, refl, ap, sym, ◌∙◌}
use Rattle.tk_core.specs.declared.op.call.OpCall.TheVariants.{Enlist}
use Rattle.tk_core.specs.Op.{opening_row}
use Rattle.tk_events.specs.Items.{owner_view, first_values}
use Rattle.tk_events.specs.Handles.{offers_made}
use Rattle.tk_live.specs.Runs.{numbers_of}
use Rattle.tk_live.specs.Items.{IsResource}
use Rattle.tk_live.proofs.Making.{is_new_op, op_made}
use Rattle.tk_live.proofs.Places.{each_there}
use Rattle.tk_live.proofs.Recording.{unspent, spent, is_there, isnt_there}
use Rattle.tk_live.proofs.interpreter.Interpreter.make_op.Goals as goal

pub returns-then-not-is_made : goal.returns-then-not-is_made
returns-then-not-is_made g c line settings k kept sent stands =
    inl (isnt_there _ _ (each_there IsResource k.pasts.resources c.args.self.now.resources.items c.args.resource stands.holds.resources_are ∙ sym c.if-not-is_made.ensures.made))

pub returns-in-Ok-async_op : goal.returns-in-Ok-async_op
returns-in-Ok-async_op g c line settings k kept sent stands =
    let i = c.args.self.now in
    let e = c.in-Ok-async_op.ensures in
    let left : offers_made i.recorder ≡ i.recorder.limit → ⊥ = λ h. let bad = e.spent.1 h in absurd cc in
    let owner = c.in-Ok-async_op.owner in
    let item = c.item_of.result in
    let kept_is = c.item_of.ensures in
    let one = op_made i _ settings k kept sent stands e.same left c.in-Ok-async_op._became e.alone c.in-Ok.spec owner item line c.args.created c.args.resource c.args.source.now c.args.attrs e.kept e.refused c.in-Ok.ensures
    (λ n at. is_new_op item owner c.args.created n c.args.attrs kept_is.id kept_is.token kept_is.open at (e.owner ∙ ap (λ a. owner_view Enlist (opening_row c.args.created (first_values a))) c.in-Ok.ensures.3)) e.id (ap (λ k. k.ledger) kept_is.token) refl (c.push_reserved.ensures.items ∙ ap (λ l. l ++ item ∷ []) c.in_default-reserve.ensures.items) in (
      is_there _ _ (each_there IsResource k.pasts.resources i.resources.items c.args.resource stands.holds.resources_are ∙ sym c.if-not-is_made.ensures.made)
          ∙ unspent i.recorder settings.capacity (numbers_of k.pasts) k kept stands.offered left,
      one.0 ∷ [],
      one.1,
    )

pub returns-in-Err-OffersSpent-default : goal.returns-in-Err-OffersSpent-default
returns-in-Err-OffersSpent-default g c line settings k kept sent stands =
    let i = c.args.self.now in
    let e = c.in-Err-OffersSpent-default.ensures in
    inl (is_there _ _ (each_there IsResource k.pasts.resources i.resources.items c.args.resource stands.holds.resources_are ∙ sym c.if-not-is_made.ensures.made)
    ∙ spent i.recorder settings.capacity (numbers_of k.pasts) k kept stands.offered (e.spent.0 (λ j. Err (c.in-Err-OffersSpent-default.field-0-0-is j, e.err.0 j))))
