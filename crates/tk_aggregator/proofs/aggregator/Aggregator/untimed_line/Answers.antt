use Rattle.std.proofs.Common.{sym, ◌∙◌}
use Rattle.tk_aggregator.specs.Aggregates.{untimed_at}
use Rattle.tk_aggregator.proofs.LeaveLemmas.{pruned_line_is}
use Rattle.tk_aggregator.proofs.StandingLemmas.{whole}
use Rattle.tk_aggregator.proofs.aggregator.Aggregator.untimed_line.Goals as goal

pub returns-in_ok-line-in-Some-clause-line : goal.returns-in_ok-line-in-Some-clause-line
returns-in_ok-line-in-Some-clause-line c =
    let a = c.self.inside in
    c.in_ok-line-in-Some.ensures.line
    ∙ pruned_line_is (whole a.tables a.told a.tasks.items a.resources.items a.ops.items a.held a.last a.broken a.retention a.timing) c.args.now c.in-Some.retention c.in-Some.is
    ∙ (λ i. untimed_at (sym c.if-snapshot.false i) (c.self.view_is i) c.args.now)
