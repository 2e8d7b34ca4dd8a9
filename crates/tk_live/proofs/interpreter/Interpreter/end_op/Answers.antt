use Rattle.std.proofs.Common.{◌≡◌, false, Some, refl, ap}
use Rattle.std.specs.Prelude.{option_map}
use Rattle.tk_core.specs.declared.op.call.OpCall.TheVariants.{PollEnd}
use Rattle.tk_script.specs.Commands as said
use Rattle.tk_live.specs.Pasts.{is_polled_op}
use Rattle.tk_live.specs.Stops.{while_polled}
use Rattle.tk_live.proofs.Places.{item_read}
use Rattle.tk_live.proofs.OnOps.{op_did, no_op}
use Rattle.tk_live.proofs.interpreter.Interpreter.end_op.Goals as goal

pub end-requires : goal.end-requires
end-requires g c = (item_read (λ o. o.closed ≡ false) c.args.self.now.ops.items c.args.op c.in-Some.place c.index_mut.result.now c.in-Some.ensures.some c.index_mut.ensures.value).1

pub returns-in-Some : goal.returns-in-Some
returns-in-Some g c line =
    let i = c.args.self.now in
    let at = item_read (λ o. o.closed ≡ false) i.ops.items c.args.op c.in-Some.place c.index_mut.result.now c.in-Some.ensures.some c.index_mut.ensures.value in
    op_did i _ line c.args.op c.in-Some.place (said.finish_op c.args.op c.args.moment) (PollEnd c.args.moment) (λ p. while_polled (Some (is_polled_op p))) c.index_mut.result.now c.end.new.self c.end.result
    at.0 c.in-Some.ensures.some.0 at.1 refl c.end.ensures.same c.end.ensures.did (λ settings k kept sent p stands e. ap (λ o. while_polled (option_map is_polled_op o)) e) (λ k. refl) refl

pub returns-in-None : goal.returns-in-None
returns-in-None g c line = no_op c.args.self.now line c.args.op (said.finish_op c.args.op c.args.moment) c.in-None.ensures.none (λ settings k kept sent stands e. ap (λ o. while_polled (option_map is_polled_op o)) e)
