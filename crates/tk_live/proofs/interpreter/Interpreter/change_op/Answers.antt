use Rattle.std.proofs.Common.{◌≡◌, false, refl, ap}
use Rattle.tk_core.specs.declared.op.call.OpCall.TheVariants.{Attr}
use Rattle.tk_script.specs.Commands as said
use Rattle.tk_live.specs.Pasts.{op_values}
use Rattle.tk_live.specs.Stops.{change_of_op, unless_refused}
use Rattle.tk_live.proofs.Places.{item_read}
use Rattle.tk_live.proofs.OnOps.{op_did, no_op}
use Rattle.tk_live.proofs.interpreter.Interpreter.change_op.Goals as goal

pub change-requires : goal.change-requires
change-requires g c = (item_read (λ o. o.closed ≡ false) c.args.self.now.ops.items c.args.number c.in-Some.place c.index_mut.result.now c.in-Some.ensures.some c.index_mut.ensures.value).1

pub returns-in-Some : goal.returns-in-Some
returns-in-Some g c line =
    let i = c.args.self.now in
    let n = c.args.number in
    let index = c.args.index in
    let change = c.args.op in
    let at = item_read (λ o. o.closed ≡ false) i.ops.items n c.in-Some.place c.index_mut.result.now c.in-Some.ensures.some c.index_mut.ensures.value in
    op_did i _ line n c.in-Some.place (said.change_op n index change) (Attr index change) (λ p. unless_refused index change (op_values p)) c.index_mut.result.now c.change.new.self c.change.result
    at.0 c.in-Some.ensures.some.0 at.1 refl c.change.ensures.same c.change.ensures.did (λ settings k kept sent p stands e. ap (change_of_op index change) e) (λ k. refl) refl

pub returns-in-None : goal.returns-in-None
returns-in-None g c line = no_op c.args.self.now line c.args.number (said.change_op c.args.number c.args.index c.args.op) c.in-None.ensures.none (λ settings k kept sent stands e. ap (change_of_op c.args.index c.args.op) e)
