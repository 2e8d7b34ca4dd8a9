use Rattle.std.proofs.Common.{ap, sym, ◌∙◌, slice_get}
use Rattle.std.specs.Option.{option_map_or}
use Rattle.tk_series.specs.Series.{with_value}
use Rattle.tk_series.proofs.SeriesLemmas.{item_more, items_all}
use Rattle.tk_compare.specs.Compared.{held_entry}
use Rattle.tk_compare.specs.Names.{texts}
use Rattle.tk_compare.specs.Spent.{plus}
use Rattle.tk_compare.proofs.places.add_held.Goals as goal

pub loop-at-preserved : goal.loop-at-preserved
loop-at-preserved c = λ xs is.
    let e = held_entry c.args.side (texts c.args.own.now) (texts c.args.loose.now) (texts c.args.others.now) in
    let all = c.args.all.now in
    let at = c.loop-at.at in
    c.in_ok-add_held_at.ensures
    ∙ ap (λ s. option_map_or (λ x. with_value plus (e x).0 (e x).1 s) (slice_get all at) s) (c.loop-at.invariant xs is)
    ∙ sym (item_more plus e xs all at)

pub returns : goal.returns
returns c = λ xs is.
    let e = held_entry c.args.side (texts c.args.own.now) (texts c.args.loose.now) (texts c.args.others.now) in
    c.loop-at.invariant xs is
    ∙ items_all plus e xs c.args.all.now c.loop-at.at _ c.len-at-end.ensures c.loop-at-test.false
