use Rattle.std.proofs.Common.{◌≤◌, length, subst, arith}
use Rattle.tk_stream.specs.Applied.{times_kind, BeginWith}
use Rattle.tk_aggregator.specs.Timing.{TimingView}
use Rattle.tk_aggregator.proofs.TimedLemmas.{told_begin, told_count}
use Rattle.tk_aggregator.proofs.timing.Timing.see.Goals as goal

pub returns-clause-begins : goal.returns-clause-begins
returns-clause-begins c =
    let a = c.self.inside in
    subst (λ (t : TimingView). BeginWith times_kind t.told t.shown) c.self.view_is (told_begin a.times a.told.rows c.self.invariant.told)

pub returns-clause-few : goal.returns-clause-few
returns-clause-few c =
    let a = c.self.inside in
    subst (λ (t : TimingView). length t.told ≤ length t.shown) c.self.view_is (omega (arith, told_count a.times a.told.rows c.self.invariant.told, c.self.invariant.told))
