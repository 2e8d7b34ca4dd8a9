use Rattle.std.proofs.Common.{◌≡◌, false, Some, refl, ap}
use Rattle.std.specs.Prelude.{option_map}
use Rattle.tk_core.specs.declared.op.call.OpCall.TheVariants.{PollStart}
use Rattle.tk_script.specs.Commands as said
use Rattle.tk_live.specs.Pasts.{is_polled_op}
use Rattle.tk_live.specs.Stops.{unless_polled}
use Rattle.tk_live.proofs.Places.{item_read}
use Rattle.tk_live.proofs.OnOps.{op_did, no_op}
use Rattle.tk_live.proofs.interpreter.Interpreter.start_op.Goals as goal

pub start-requires : goal.start-requires
start-requires g c = (item_read (λ o. o.closed ≡ false) c.args.self.now.ops.items c.args.op c.in-Some.place c.index_mut.result.now c.in-Some.ensures.some c.index_mut.ensures.value).1

pub returns-in-Some : goal.returns-in-Some
returns-in-Some g c line =
    let i = c.args.self.now in
    let at = item_read (λ o. o.closed ≡ false) i.ops.items c.args.op c.in-Some.place c.index_mut.result.now c.in-Some.ensures.some c.index_mut.ensures.value in
    op_did i _ line c.args.op c.in-Some.place (said.start_op c.args.op c.args.moment) (PollStart c.args.moment) (λ p. unless_polled (Some (is_polled_op p))) c.index_mut.result.now c.start.new.self c.start.result
    at.0 c.in-Some.ensures.some.0 at.1 refl c.start.ensures.same c.start.ensures.did (λ settings k kept sent p stands e. ap (λ o. unless_polled (option_map is_polled_op o)) e) (λ k. refl) refl

pub returns-in-None : goal.returns-in-None
returns-in-None g c line = no_op c.args.self.now line c.args.op (said.start_op c.args.op c.args.moment) c.in-None.ensures.none (λ settings k kept sent stands e. ap (λ o. unless_polled (option_map is_polled_op o)) e)
