use Rattle.std.proofs.Common.{subst}
use Rattle.tk_aggregator.specs.Aggregates.{IsSound}
use Rattle.tk_aggregator.proofs.StandingLemmas.{sound}
use Rattle.tk_aggregator.proofs.aggregator.Aggregator.tables.Goals as goal

pub returns-clause-sound : goal.returns-clause-sound
returns-clause-sound c =
    let a = c.self.inside in
    subst IsSound c.self.view_is (sound a.tables a.told a.tasks.items a.resources.items a.ops.items a.held a.last a.broken a.retention a.timing c.self.invariant.0 c.self.invariant.1 c.see.ensures.distinct c.see.ensures.in_range
    (record { distinct = c.see-2.ensures.distinct; in_range = c.see-2.ensures.in_range; begins = c.see-2.ensures.begins; unread = c.see-2.ensures.unread }))
