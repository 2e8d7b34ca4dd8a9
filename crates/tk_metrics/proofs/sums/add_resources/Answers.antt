use Rattle.std.proofs.Common.{ap, sym, ◌∙◌, slice_get}
use Rattle.std.specs.Option.{option_map_or}
use Rattle.tk_series.specs.Series.{with_value}
use Rattle.tk_metrics.specs.Sums.{both_ops, poll_ops, resource_entry, type_label}
use Rattle.tk_series.proofs.SeriesLemmas.{item_more, items_all}
use Rattle.tk_metrics.proofs.sums.add_resources.Goals as goal

pub loop-place-preserved : goal.loop-place-preserved
loop-place-preserved c = λ before is.
    let counts = c.args.tables.now.counts in
    let resources = c.args.tables.now.resources in
    let place = c.loop-place.place in
    c.in_ok-add_resource_at.ensures
    ∙ ap (λ s. option_map_or (λ r. with_value both_ops (type_label r) (poll_ops counts r) s) (slice_get resources place) s) (c.loop-place.invariant before is)
    ∙ sym (item_more both_ops (resource_entry counts) before resources place)

pub returns : goal.returns
returns c = λ before is.
    c.loop-place.invariant before is
    ∙ items_all both_ops (resource_entry c.args.tables.now.counts) before c.args.tables.now.resources c.loop-place.place _ c.resource_count-place-end.ensures c.loop-place-test.false
