use Rattle.std.proofs.Common.{◌≡◌, [], Some, ap, refl, slice_get, sym, ◌∙◌}
use Rattle.std.specs.Option.{option_map_or}
use Rattle.std.proofs.lemmas.Option.{slice_get_read}
use Rattle.tk_client.specs.declared.change.LeftTask.{LeftTask}
use Rattle.tk_metrics.specs.Histograms.{left_histogram, with_all}
use Rattle.tk_metrics.proofs.HistogramLemmas.{all_added, next_added}
use Rattle.tk_metrics.proofs.histograms.add_left.Goals as goal

pub loop-one-preserved : goal.loop-one-preserved
loop-one-preserved c =
    let i = c.loop-one.one-index in
    let one : LeftTask = c.one-item.result in
    let e = left_histogram c.args.timing c.args.keys.now in
    let here : slice_get c.args.left.now i ≡ Some one = slice_get_read c.args.left.now _ i one refl c.loop-one-test.true c.one-item.is in
    next_added e c.args.series.now c.loop-one.series _ c.args.left.now i c.loop-one.invariant
    (c.in_ok-add_left_one.ensures ∙ ap (λ o. with_all c.loop-one.series (option_map_or e o [])) (sym here))

pub returns : goal.returns
returns c = all_added (left_histogram c.args.timing c.args.keys.now) c.args.series.now c.loop-one.series c.args.left.now c.loop-one.one-index _ refl c.loop-one-test.false c.loop-one.invariant
