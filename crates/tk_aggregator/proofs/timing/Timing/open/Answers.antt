use Rattle.std.proofs.Common.{◌≡◌, ◌∷◌, ◌++◌, [], List, ap, ap₂, ◌∙◌}
use Rattle.tk_core.specs.Times.{opening_row}
use Rattle.tk_stream.specs.Fronts.{as_told, with_rows}
use Rattle.tk_stream.specs.Times.{TaskTimes, times_shown, times_with}
use Rattle.tk_aggregator.specs.Timing.{timing_opened}
use Rattle.tk_aggregator.proofs.ReadingLemmas.{with_rows-more}
use Rattle.tk_aggregator.proofs.timing.Timing.open.Goals as goal

pub returns-clause-ok : goal.returns-clause-ok
returns-clause-ok c =
    let a = c.self.inside in
    let one : TaskTimes = (c.args.task, times_shown opening_row) in
    let shown : c.push.new.self ≡ a.times ++ one ∷ [] =
    c.in-Ok.ensures.ok ∙ ap (λ times. a.times ++ (c.args.task, times) ∷ []) (c.of-nothing.ensures ∙ ap times_shown c.opening.ensures) in
    let told = ap₂ (λ (xs : List TaskTimes) rows. with_rows (as_told times_with) xs rows) shown c.make_room.ensures.rows ∙ with_rows-more (as_told times_with) a.times (one ∷ []) a.told.rows c.self.invariant.told in
    (λ i. record { reads = a.reads; shown = shown i; told = told i; readers = c.reserve.ensures.items i }) ∙ ap (timing_opened c.args.task) c.self.view_is
