use Rattle.std.proofs.Common.{ap, sym, ◌∙◌, slice_get}
use Rattle.std.specs.Option.{option_map_or}
use Rattle.tk_odd.specs.Places.{place_of}
use Rattle.tk_sites.specs.Site.{room}
use Rattle.tk_series.specs.Limited.{with_one}
use Rattle.tk_sites.specs.Sites.{until_entry}
use Rattle.tk_sites.specs.Sums.{plus, there_until}
use Rattle.tk_series.proofs.FoldLemmas.{item_more, items_all}
use Rattle.tk_sites.proofs.adding.add_until.Goals as goal

pub loop-place-preserved : goal.loop-place-preserved
loop-place-preserved c = λ before is.
    let tasks = c.args.tables.now.tasks in
    let place = c.loop-place.place in
    c.in_ok-add_until_at.ensures
    ∙ ap (λ s. option_map_or (λ t. with_one plus (place_of t.info) (there_until c.args.tables.now.now t.row) s) (slice_get tasks place) s) (c.loop-place.invariant before is)
    ∙ sym (item_more room plus (until_entry c.args.tables.now.now) before tasks place)

pub returns : goal.returns
returns c = λ before is.
    c.loop-place.invariant before is
    ∙ items_all room plus (until_entry c.args.tables.now.now) before c.args.tables.now.tasks c.loop-place.place _ c.task_count-place-end.ensures.count c.loop-place-test.false
