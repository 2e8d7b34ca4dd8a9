use Rattle.std.proofs.Common.{sym, subst}
use Rattle.tk_stream.specs.Tables.{TablesView}
use Rattle.tk_aggregator.specs.Standing.{TimesStand}
use Rattle.tk_aggregator.specs.Aggregates.{ReadOp, ReadsOps}
use Rattle.tk_aggregator.proofs.StandingLemmas.{whole}
use Rattle.tk_aggregator.proofs.HandledLemmas.{pairs-count}
use Rattle.tk_aggregator.proofs.RefreshLemmas.{ops_standing, ops_read}
use Rattle.tk_aggregator.proofs.aggregator.Aggregator.refresh_ops.Goals as goal

pub read_ops-requires : goal.read_ops-requires
read_ops-requires g c = pairs-count ReadOp _ _ c.self.invariant.0.ops

pub invariant_of-self : goal.invariant_of-self
invariant_of-self g c =
    let a = c.self.inside in
    let k = c.read_ops.ensures in (
      ops_standing a.tables a.told a.tasks.items a.resources.items a.ops.items a.held a.last c.self.invariant.0 c.read_ops.new.tables c.read_ops.new.told
          k.reads.0 c.read_ops.new.handles.items k.reads.1 k.reads.2 k.alone k.told,
      subst (λ (t : TablesView). TimesStand t.tasks a.timing) (sym k.reads.2) c.self.invariant.1,
    )

pub returns : goal.returns
returns g c =
    let a = c.self.inside in
    let k = c.read_ops.ensures in
    subst (λ old. ReadsOps old (whole c.read_ops.new.tables c.read_ops.new.told a.tasks.items a.resources.items c.read_ops.new.handles.items a.held a.last a.broken a.retention a.timing)) c.self.view_is
    (ops_read a.tables a.told a.tasks.items a.resources.items a.ops.items a.held a.last c.self.invariant.0 c.read_ops.new.tables c.read_ops.new.told
    k.reads.0 c.read_ops.new.handles.items k.reads.1 k.reads.2 k.alone k.told a.broken a.retention a.timing)
