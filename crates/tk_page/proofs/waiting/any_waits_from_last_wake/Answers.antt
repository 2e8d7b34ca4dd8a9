use Rattle.std.proofs.Common.{sym, ◌∙◌}
use Rattle.tk_page.specs.Waiting.{waits_from_last_wake}
use Rattle.tk_page.proofs.LoopLemmas.{none_more, some_passes}
use Rattle.tk_page.proofs.waiting.any_waits_from_last_wake.Goals as goal

pub returns-then-waits_from_last_wake_at : goal.returns-then-waits_from_last_wake_at
returns-then-waits_from_last_wake_at c =
    sym (some_passes waits_from_last_wake c.args.tables.now.tasks c.loop-place.place (sym c.waits_from_last_wake_at.ensures ∙ c.if-waits_from_last_wake_at.true))

pub loop-place-preserved : goal.loop-place-preserved
loop-place-preserved c =
    none_more waits_from_last_wake c.args.tables.now.tasks c.loop-place.place c.loop-place.invariant (sym c.waits_from_last_wake_at.ensures ∙ c.if-waits_from_last_wake_at.false)
