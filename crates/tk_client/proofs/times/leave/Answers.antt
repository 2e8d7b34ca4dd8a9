use Rattle.std.proofs.Common.{ℕ, [], ◌∷◌, take, ap, ◌∙◌, sym}
use Rattle.tk_stream.specs.Tables.{staying}
use Rattle.tk_stream.specs.Times.{times_id}
use Rattle.tk_client.proofs.TimesLemmas.{left_next, none_left, take_next}
use Rattle.tk_client.proofs.times.leave.Goals as goal

pub loop-id-init : goal.loop-id-init
loop-id-init c = none_left c.args.times.now

pub loop-id-preserved : goal.loop-id-preserved
loop-id-preserved c =
    let id : ℕ = c.id-item.result in
    c.remove.ensures
    ∙ ap (λ (n : ℕ). staying times_id (n ∷ []) c.loop-id.times) c.value.ensures.value
    ∙ left_next (take c.loop-id.id-index c.args.gone.now) id c.args.times.now c.loop-id.times c.loop-id.invariant
    ∙ ap (λ gone. staying times_id gone c.args.times.now) (sym (take_next c.args.gone.now c.loop-id.id-index id c.loop-id-test.true c.id-item.is))
