use Rattle.std.proofs.Common.{ap, sym, ◌∙◌, slice_get}
use Rattle.std.specs.Option.{option_map_or}
use Rattle.tk_series.specs.Limited.{with_one}
use Rattle.tk_series.proofs.FoldLemmas.{item_more, items_all}
use Rattle.tk_odd.specs.Places.{place_of}
use Rattle.tk_sites.specs.Site.{room}
use Rattle.tk_sites.specs.TimedSites.{there_times, times_with}
use Rattle.tk_sites.specs.Times.{plus_times, times_of}
use Rattle.tk_sites.proofs.timing.add_there_times.Goals as goal

pub loop-place-preserved : goal.loop-place-preserved
loop-place-preserved c = λ before is.
    let tasks = c.args.tables.now.tasks in
    let times = c.args.times.now in
    let place = c.loop-place.place in
    c.in_ok-add_there_at.ensures
    ∙ ap (λ s. option_map_or (λ t. with_one plus_times (place_of t.info) (times_of (times_with times t.info.id)) s) (slice_get tasks place) s) (c.loop-place.invariant before is)
    ∙ sym (item_more room plus_times (there_times times) before tasks place)

pub returns : goal.returns
returns c = λ before is.
    c.loop-place.invariant before is
    ∙ items_all room plus_times (there_times c.args.times.now) before c.args.tables.now.tasks c.loop-place.place _ c.task_count-place-end.ensures.count c.loop-place-test.false
