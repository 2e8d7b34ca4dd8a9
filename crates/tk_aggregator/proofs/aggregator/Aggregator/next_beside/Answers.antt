use Rattle.std.proofs.Common.{sym, ◌∙◌, subst}
use Rattle.tk_aggregator.specs.Aggregates.{Comes}
use Rattle.tk_aggregator.proofs.GatherLemmas.{comes_held, comes_taken}
use Rattle.tk_aggregator.proofs.StandingLemmas.{whole}
use Rattle.tk_aggregator.proofs.aggregator.Aggregator.next_beside.Goals as goal

pub returns-in-Some-clause-some : goal.returns-in-Some-clause-some
returns-in-Some-clause-some g c =
    let a = c.self.inside in
    subst (λ old. Comes old c.args.taker.now c.in-Some.event (whole a.tables a.told a.tasks.items a.resources.items a.ops.items c.take.new.self a.last a.broken a.retention a.timing) c.args.taker.now) c.self.view_is
    (comes_held (whole a.tables a.told a.tasks.items a.resources.items a.ops.items a.held a.last a.broken a.retention a.timing) c.args.taker.now c.in-Some.event c.take.new.self (sym c.take.ensures.value ∙ c.in-Some.is) c.take.ensures.after)

pub returns-clause-some : goal.returns-clause-some
returns-clause-some g c =
    let a = c.self.inside in
    let k = c.in_ok-event.ensures.some in
    subst (λ old. Comes old c.args.taker.now c.in_ok-event.event (whole a.tables a.told a.tasks.items a.resources.items a.ops.items c.take.new.self a.last a.broken a.retention a.timing) c.take_beside.new.self) c.self.view_is
    (comes_taken (whole a.tables a.told a.tasks.items a.resources.items a.ops.items a.held a.last a.broken a.retention a.timing) c.args.taker.now c.take_beside.new.self c.in_ok-event.event c.take.new.self k.0 k.1 (sym c.take.ensures.value ∙ c.in_default.is) c.take.ensures.after k.2)
