use Rattle.std.proofs.Common.{◌≡◌, false, Some, inl, refl, ap, sym, ◌∙◌}
use Rattle.std.proofs.Common.{cond}
use Rattle.tk_core.specs.declared.resource.call.ResourceCall.TheVariants.{Attr}
use Rattle.tk_core.specs.declared.reply.Refusal.TheVariants.{Closed}
use Rattle.tk_script.specs.Commands as said
use Rattle.tk_script.specs.declared.stop.Stop.TheVariants.{Call}
use Rattle.tk_live.specs.Items.{IsResource}
use Rattle.tk_live.specs.Pasts.{resource_values}
use Rattle.tk_live.specs.Stops.{change_of_resource, unless_refused}
use Rattle.tk_live.proofs.Places.{at_place, each_made, each_there, item_read}
use Rattle.tk_live.proofs.OnResources.{change_unmade, change_shut, resource_did, no_resource}
use Rattle.tk_live.proofs.interpreter.Interpreter.change_resource.Goals as goal

pub change-requires : goal.change-requires
change-requires g c =
    let i = c.args.self.now in
    let n = c.args.resource in
    let at = item_read (λ r. r.closed ≡ false) i.resources.items n c.in-Some.place c.index_mut.result.now c.in-Some.ensures.some c.index_mut.ensures.value in
    (each_made IsResource c.requires.1.pasts.resources i.resources.items n c.index_mut.result.now c.requires.4.holds.resources_are (at_place n c.in-Some.place i.resources.items c.in-Some.ensures.some.0 ∙ at.0)).2.user

pub returns-in-Some : goal.returns-in-Some
returns-in-Some g c line =
    let i = c.args.self.now in
    let n = c.args.resource in
    let index = c.args.index in
    let change = c.args.op in
    let at = item_read (λ r. r.closed ≡ false) i.resources.items n c.in-Some.place c.index_mut.result.now c.in-Some.ensures.some c.index_mut.ensures.value in
    resource_did i _ line n c.in-Some.place (said.change_resource n index change) (Attr index change) (λ p. unless_refused index change (resource_values p)) c.index_mut.result.now c.change.new.self c.change.result
    at.0 c.in-Some.ensures.some.0 at.1 refl c.change.ensures.same c.change.ensures.did
    (λ k p made unshut there. ap (change_of_resource index change) made ∙ ap (λ b. cond b (Some (Call Closed)) (unless_refused index change (resource_values p))) unshut) (λ k. refl) refl

pub returns-then-not-is_made : goal.returns-then-not-is_made
returns-then-not-is_made g c line settings k kept sent stands =
    inl (change_unmade c.args.index c.args.op _ (each_there IsResource k.pasts.resources c.args.self.now.resources.items c.args.resource stands.holds.resources_are ∙ sym c.if-not-is_made.ensures.made))

pub returns-in-None : goal.returns-in-None
returns-in-None g c line = no_resource c.args.self.now line c.args.resource (said.change_resource c.args.resource c.args.index c.args.op) (Call Closed) c.in-None.ensures.none
    (λ k same e. change_shut c.args.index c.args.op _ (same ∙ sym c.if-not-is_made.ensures.made) e)
