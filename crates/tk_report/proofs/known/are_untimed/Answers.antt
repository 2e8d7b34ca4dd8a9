use Rattle.std.proofs.Common.{ap, sym, ◌∙◌, arith}
use Rattle.std.specs.List.{list_any}
use Rattle.std.proofs.lemmas.List.{take_all}
use Rattle.tk_report.specs.Known.{is_untimed}
use Rattle.tk_report.proofs.LoopLemmas.{none_more, one_passes}
use Rattle.tk_report.proofs.known.are_untimed.Goals as goal

pub returns-then-is_untimed_at : goal.returns-then-is_untimed_at
returns-then-is_untimed_at c =
    sym (one_passes (is_untimed c.args.times.now) c.args.tables.now.tasks c.loop-place.place (sym c.is_untimed_at.ensures ∙ c.if-is_untimed_at.true))

pub loop-place-preserved : goal.loop-place-preserved
loop-place-preserved c =
    none_more (is_untimed c.args.times.now) c.args.tables.now.tasks c.loop-place.place c.loop-place.invariant (sym c.is_untimed_at.ensures ∙ c.if-is_untimed_at.false)

pub returns : goal.returns
returns c =
    let test = is_untimed c.args.times.now in
    let tasks = c.args.tables.now.tasks in
    sym c.loop-place.invariant ∙ ap (list_any test) (take_all c.loop-place.place tasks (omega arith))
