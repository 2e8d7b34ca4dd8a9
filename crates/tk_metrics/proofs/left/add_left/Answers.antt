use Rattle.std.proofs.Common.{◌≡◌, Some, ap, append-nil, refl, slice_get, sym, ◌∙◌}
use Rattle.std.specs.Option.{option_map_or}
use Rattle.std.proofs.lemmas.Option.{slice_get_read}
use Rattle.tk_client.specs.declared.change.LeftTask.{LeftTask}
use Rattle.tk_metrics.specs.Entries.{left_task}
use Rattle.tk_metrics.specs.Sums.{plus}
use Rattle.tk_series.specs.Series.{series_of, with_value}
use Rattle.tk_series.proofs.SeriesLemmas.{item_more, items_all, so_far}
use Rattle.tk_metrics.proofs.left.add_left.Goals as goal

pub loop-one-init : goal.loop-one-init
loop-one-init c = λ before is. is ∙ ap (series_of plus) (sym (append-nil before))

pub loop-one-preserved : goal.loop-one-preserved
loop-one-preserved c = λ before is.
    let i = c.loop-one.one-index in
    let one : LeftTask = c.one-item.result in
    let e = λ (x : LeftTask). left_task c.args.keys.now x.task in
    let left = c.args.left.now in
    let here : slice_get left i ≡ Some one = slice_get_read left _ i one refl c.loop-one-test.true c.one-item.is in
    c.in_ok-add_left_one.ensures
    ∙ ap (with_value plus (e one).0 (e one).1) (c.loop-one.invariant before is)
    ∙ ap (λ o. option_map_or (λ (x : LeftTask). with_value plus (e x).0 (e x).1 (so_far plus e before left i)) o (so_far plus e before left i)) (sym here)
    ∙ sym (item_more plus e before left i)

pub returns : goal.returns
returns c = λ before is.
    c.loop-one.invariant before is
    ∙ items_all plus (λ (x : LeftTask). left_task c.args.keys.now x.task) before c.args.left.now c.loop-one.one-index _ refl c.loop-one-test.false
