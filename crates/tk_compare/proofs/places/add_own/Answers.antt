use Rattle.std.proofs.Common.{ap, sym, ◌∙◌, slice_get}
use Rattle.std.specs.Option.{option_map_or}
use Rattle.tk_series.specs.Series.{with_value}
use Rattle.tk_series.proofs.SeriesLemmas.{item_more, items_all}
use Rattle.tk_compare.specs.Compared.{entry}
use Rattle.tk_compare.specs.Names.{texts}
use Rattle.tk_compare.specs.Spent.{plus}
use Rattle.tk_compare.proofs.places.add_own.Goals as goal

pub loop-at-preserved : goal.loop-at-preserved
loop-at-preserved g c = λ xs is.
    let e = entry g.P.Part.spent c.args.side (texts c.args.loose.now) (texts c.args.others.now) in
    let first = c.args.sites.now.first in
    let at = c.loop-at.at in
    c.in_ok-add_at.ensures
    ∙ ap (λ s. option_map_or (λ x. with_value plus (e x).0 (e x).1 s) (slice_get first at) s) (c.loop-at.invariant xs is)
    ∙ sym (item_more plus e xs first at)

pub returns : goal.returns
returns g c = λ xs is.
    let e = entry g.P.Part.spent c.args.side (texts c.args.loose.now) (texts c.args.others.now) in
    c.loop-at.invariant xs is
    ∙ items_all plus e xs c.args.sites.now.first c.loop-at.at _ c.len-at-end.ensures.len c.loop-at-test.false
