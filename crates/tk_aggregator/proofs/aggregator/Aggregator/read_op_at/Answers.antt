use Rattle.std.proofs.Common.{Some, sym, subst}
use Rattle.tk_aggregator.specs.Aggregates.{ReadOp}
use Rattle.tk_aggregator.specs.Beside.{ReadsOpBeside}
use Rattle.tk_stream.specs.Tables.{TablesView}
use Rattle.tk_aggregator.specs.Standing.{TimesStand}
use Rattle.tk_aggregator.proofs.StandingLemmas.{whole}
use Rattle.tk_aggregator.proofs.HandledLemmas.{pairs-count}
use Rattle.tk_aggregator.proofs.ReadAtLemmas.{op_at_stands, op_stays_hand, op_reads_beside}
use Rattle.tk_aggregator.proofs.aggregator.Aggregator.read_op_at.Goals as goal

pub read_op_at-requires-clause-handles : goal.read_op_at-requires-clause-handles
read_op_at-requires-clause-handles g c = pairs-count ReadOp _ _ c.self.invariant.0.ops

pub invariant_of-self : goal.invariant_of-self
invariant_of-self g c =
    let a = c.self.inside in
    let k = c.read_op_at.ensures in (
      op_at_stands a.tables a.told a.tasks.items a.resources.items a.ops.items a.held a.last c.self.invariant.0 c.read_op_at.new.tables c.read_op_at.new.told
          c.args.place k.reads.2 c.args.callers.now c.read_op_at.new.hand k.reads.0 k.reads.1 c.read_op_at.new.handles.items k.reads.3 k.reads.4 k.reads.5 k.reads.6 k.alone k.told,
      subst (λ (t : TablesView). TimesStand t.tasks a.timing) (sym k.reads.6) c.self.invariant.1,
    )

pub returns-clause-hand : goal.returns-clause-hand
returns-clause-hand g c =
    let a = c.self.inside in
    let k = c.read_op_at.ensures in
    op_stays_hand a.tables a.told a.tasks.items a.resources.items a.ops.items a.held a.last c.self.invariant.0 c.read_op_at.new.tables c.read_op_at.new.told
    c.args.place k.reads.2 c.args.callers.now c.read_op_at.new.hand k.reads.0 k.reads.1 c.read_op_at.new.handles.items k.reads.3 k.reads.4 k.reads.5 k.reads.6 k.alone k.told

pub returns-clause-reads : goal.returns-clause-reads
returns-clause-reads g c =
    let a = c.self.inside in
    let k = c.read_op_at.ensures in
    subst (λ old. ReadsOpBeside c.args.callers.now old (whole c.read_op_at.new.tables c.read_op_at.new.told a.tasks.items a.resources.items c.read_op_at.new.handles.items a.held a.last a.broken a.retention a.timing) (Some c.args.place)) c.self.view_is
    (op_reads_beside a.tables a.told a.tasks.items a.resources.items a.ops.items a.held a.last c.self.invariant.0 c.read_op_at.new.tables c.read_op_at.new.told
    c.args.place k.reads.2 c.args.callers.now c.read_op_at.new.hand k.reads.0 k.reads.1 c.read_op_at.new.handles.items k.reads.3 k.reads.4 k.reads.5 k.reads.6 k.alone k.told a.broken a.retention a.timing)
