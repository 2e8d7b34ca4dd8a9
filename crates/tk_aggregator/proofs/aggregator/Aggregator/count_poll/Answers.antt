use Rattle.std.proofs.Common.{◌≡◌, sym, subst}
use Rattle.tk_stream.specs.Tables.{TablesView}
use Rattle.tk_aggregator.specs.Standing.{TimesStand}
use Rattle.tk_stream.specs.Polls.{counted}
use Rattle.tk_aggregator.specs.Aggregates.{Aggregating}
use Rattle.tk_aggregator.proofs.StandingLemmas.{whole}
use Rattle.tk_aggregator.proofs.TakeInLemmas.{poll_stands, poll_counts}
use Rattle.tk_aggregator.proofs.aggregator.Aggregator.count_poll.Goals as goal

pub invariant_of-self-2 : goal.invariant_of-self-2
invariant_of-self-2 c =
    let a = c.self.inside in
    let k = c.put_poll.ensures in (
      poll_stands a.tables a.told a.tasks.items a.resources.items a.ops.items a.held a.last c.self.invariant.0 c.put_poll.new.tables c.put_poll.new.told
          (counted c.args.resource c.args.ready a.tables.counts) c.in_ok-put_poll.ensures.ok k.alone k.fit k.room k.told,
      subst (λ (t : TablesView). TimesStand t.tasks a.timing) (sym c.in_ok-put_poll.ensures.ok) c.self.invariant.1,
    )

pub returns-clause-ok : goal.returns-clause-ok
returns-clause-ok c =
    let a = c.self.inside in
    let k = c.put_poll.ensures in
    subst (λ (old : Aggregating). whole c.put_poll.new.tables c.put_poll.new.told a.tasks.items a.resources.items a.ops.items a.held a.last a.broken a.retention a.timing ≡ record old { tables = record old.tables { counts = counted c.args.resource c.args.ready old.tables.counts } }) c.self.view_is
    (poll_counts a.tables a.told a.tasks.items a.resources.items a.ops.items a.held a.last c.self.invariant.0 c.put_poll.new.tables c.put_poll.new.told
    (counted c.args.resource c.args.ready a.tables.counts) c.in_ok-put_poll.ensures.ok k.alone k.fit k.room k.told a.broken a.retention a.timing)

-- at want of memory
pub invariant_of-self : goal.invariant_of-self
invariant_of-self c =
    let a = c.self.inside in
    let k = c.put_poll.ensures in (
      poll_stands a.tables a.told a.tasks.items a.resources.items a.ops.items a.held a.last c.self.invariant.0 c.put_poll.new.tables c.put_poll.new.told
          a.tables.counts c.in_err-put_poll.ensures.err k.alone k.fit k.room k.told,
      subst (λ (t : TablesView). TimesStand t.tasks a.timing) (sym c.in_err-put_poll.ensures.err) c.self.invariant.1,
    )
