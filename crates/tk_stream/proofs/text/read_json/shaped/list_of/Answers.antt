use Rattle.std.proofs.Common.{◌≡◌, ap, ◌∙◌, Option, Some, None, [], List, refl}
use Rattle.std.proofs.lemmas.Result.{err_from_is_err_and}
use Rattle.serde_json.specs.View.{view}
use Rattle.tk_stream.specs.Outcome.{shaped}
use Rattle.tk_stream.specs.Reading.{each_of}
use Rattle.tk_stream.proofs.Lists.{goes_on, fails, is_done, each_of-map, shaped_some, with_front}
use Rattle.tk_stream.proofs.text.read_json.shaped.list_of.Goals as goal

with_none : {A : Type 0} (o : Option (List A)) → with_front [] o ≡ o
with_none (Some xs) = refl
with_none None = refl

pub loop-value-init : goal.loop-value-init
loop-value-init g c =
    ap (λ xs. with_front xs (each_of (λ v. g.T.Shaped.shape (view v)) c.args.values.now)) c.new-list.ensures.items ∙ with_none _

pub returns-in_err-of_value : goal.returns-in_err-of_value
returns-in_err-of_value g c =
    let p = err_from_is_err_and c.from_residual.result c.from_residual.ensures.1 in
    rw (p.1, p.2, each_of-map view g.T.Shaped.shape c.args.values.now)
    (fails (λ v. g.T.Shaped.shape (view v)) c.loop-value.list.items c.args.values.now c.loop-value.value-index _ c.in_err-of_value.field-0.0 c.value-item.result c.loop-value-test.true c.value-item.is c.in_err-of_value.ensures c.loop-value.invariant)

pub loop-value-preserved : goal.loop-value-preserved
loop-value-preserved g c =
    rw c.in_ok-push.ensures.items
    (goes_on (λ v. g.T.Shaped.shape (view v)) c.loop-value.list.items c.args.values.now c.loop-value.value-index _ c.value-item.result c.in_ok-of_value.field-0 c.loop-value-test.true c.value-item.is (shaped_some _ _ c.in_ok-of_value.ensures) c.loop-value.invariant)

pub returns : goal.returns
returns g c =
    ap shaped (each_of-map view g.T.Shaped.shape c.args.values.now ∙ is_done (λ v. g.T.Shaped.shape (view v)) c.loop-value.list.items c.args.values.now c.loop-value.value-index _ c.loop-value-test.false c.loop-value.invariant)
