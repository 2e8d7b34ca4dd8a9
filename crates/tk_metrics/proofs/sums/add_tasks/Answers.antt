use Rattle.std.proofs.Common.{ap, sym, ◌∙◌, slice_get}
use Rattle.std.specs.Option.{option_map_or}
use Rattle.tk_series.specs.Series.{with_value}
use Rattle.tk_metrics.specs.Entries.{task_entry}
use Rattle.tk_metrics.specs.Keys.{labels_in}
use Rattle.tk_metrics.specs.Sums.{plus, sums_of}
use Rattle.tk_series.proofs.SeriesLemmas.{item_more, items_all}
use Rattle.tk_metrics.proofs.sums.add_tasks.Goals as goal

pub loop-place-preserved : goal.loop-place-preserved
loop-place-preserved c = λ before is.
    let by = c.args.keys.now in
    let tasks = c.args.tables.now.tasks in
    let place = c.loop-place.place in
    c.in_ok-add_task_at.ensures
    ∙ ap (λ s. option_map_or (λ t. with_value plus (labels_in by t) (sums_of c.args.tables.now.now t.row) s) (slice_get tasks place) s) (c.loop-place.invariant before is)
    ∙ sym (item_more plus (task_entry by c.args.tables.now.now) before tasks place)

pub returns : goal.returns
returns c = λ before is.
    c.loop-place.invariant before is
    ∙ items_all plus (task_entry c.args.keys.now c.args.tables.now.now) before c.args.tables.now.tasks c.loop-place.place _ c.task_count-place-end.ensures.count c.loop-place-test.false
