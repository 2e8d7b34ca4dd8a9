use Rattle.std.proofs.Common.{◌≡◌, false, None, refl, ap}
use Rattle.tk_core.specs.declared.resource.call.ResourceCall.TheVariants.{Close}
use Rattle.tk_script.specs.Commands as said
use Rattle.tk_script.specs.declared.stop.Stop.TheVariants.{NoSuchItem}
use Rattle.tk_live.specs.Stops.{if_there}
use Rattle.tk_live.proofs.Places.{item_read}
use Rattle.tk_live.proofs.OnResources.{resource_did, no_resource}
use Rattle.tk_live.proofs.interpreter.Interpreter.close_resource.Goals as goal

pub close-requires : goal.close-requires
close-requires g c = (item_read (λ r. r.closed ≡ false) c.args.self.now.resources.items c.args.resource c.in-Some.place c.index_mut.result.now c.in-Some.ensures.some c.index_mut.ensures.value).1

pub returns-in-Some : goal.returns-in-Some
returns-in-Some g c line =
    let i = c.args.self.now in
    let n = c.args.resource in
    let at = item_read (λ r. r.closed ≡ false) i.resources.items n c.in-Some.place c.index_mut.result.now c.in-Some.ensures.some c.index_mut.ensures.value in
    resource_did i _ line n c.in-Some.place (said.close_resource n c.args.moment) (Close c.args.moment) (λ p. None) c.index_mut.result.now c.close.new.self c.close.result at.0 c.in-Some.ensures.some.0 at.1 refl c.close.ensures.same c.close.ensures.did
    (λ k p e unshut there. ap (λ o. if_there o None) there) (λ k. refl) refl

pub returns-in-None : goal.returns-in-None
returns-in-None g c line = no_resource c.args.self.now line c.args.resource (said.close_resource c.args.resource c.args.moment) NoSuchItem c.in-None.ensures.none (λ k same e. ap (λ o. if_there o None) e)
