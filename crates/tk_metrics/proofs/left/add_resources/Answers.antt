use Rattle.std.proofs.Common.{ap, sym, ◌∙◌, cond, is_some, slice_get}
use Rattle.std.specs.Prelude.{not}
use Rattle.std.specs.Option.{option_map_or}
use Rattle.tk_stream.specs.Tables.{resource_with}
use Rattle.tk_stream.specs.declared.tables.resource.Resource.{Resource}
use Rattle.tk_metrics.specs.Sums.{both_ops, poll_ops, resource_entry, type_label}
use Rattle.tk_series.specs.Series.{with_value}
use Rattle.tk_series.proofs.SeriesLemmas.{passed_more, passed_all}
use Rattle.tk_metrics.proofs.left.add_resources.Goals as goal

pub loop-place-preserved : goal.loop-place-preserved
loop-place-preserved c = λ before is.
    let xs = c.args.old.now in
    let place = c.loop-place.place in
    c.in_ok-add_resource_at.ensures
    ∙ ap (λ s. option_map_or (λ (r : Resource). cond (not (is_some (resource_with r.info.id c.args.new.now.resources))) (with_value both_ops (type_label r) (poll_ops c.args.counts.now r) s) s) (slice_get xs place) s) (c.loop-place.invariant before is)
    ∙ sym (passed_more both_ops (resource_entry c.args.counts.now) (λ (r : Resource). not (is_some (resource_with r.info.id c.args.new.now.resources))) before xs place)

pub returns : goal.returns
returns c = λ before is.
    c.loop-place.invariant before is
    ∙ passed_all both_ops (resource_entry c.args.counts.now) (λ (r : Resource). not (is_some (resource_with r.info.id c.args.new.now.resources))) before c.args.old.now c.loop-place.place _ c.len-place-end.ensures.count c.loop-place-test.false
