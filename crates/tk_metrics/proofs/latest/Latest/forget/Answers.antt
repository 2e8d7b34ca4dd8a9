use Rattle.std.proofs.Common.{◌≡◌, ◌∷◌, [], ◌∙◌, Some, ap, refl, slice_get}
use Rattle.std.proofs.lemmas.Option.{slice_get_read}
use Rattle.tk_client.specs.Changes.{left_id}
use Rattle.tk_client.specs.declared.change.LeftTask.{LeftTask}
use Rattle.tk_stream.specs.Tables.{staying}
use Rattle.tk_stream.specs.Times.{times_id}
use Rattle.tk_metrics.proofs.LatestLemmas.{forgotten, not_left}
use Rattle.tk_metrics.proofs.latest.Latest.forget.Goals as goal

pub loop-one-preserved : goal.loop-one-preserved
loop-one-preserved c = λ other away.
    let i = c.loop-one.one-index in
    let one : LeftTask = c.one-item.result in
    let here : slice_get c.args.left.now i ≡ Some one = slice_get_read c.args.left.now _ i one refl c.loop-one-test.true c.one-item.is in
    forgotten (left_id one) other c.loop-one.self.times _
    (c.remove.ensures ∙ ap (λ n. staying times_id (n ∷ []) c.loop-one.self.times) c.value.ensures.value) (not_left other c.args.left.now i one here away)
    ∙ c.loop-one.invariant other away
