use Rattle.std.proofs.Common.{Some, sym, subst}
use Rattle.tk_aggregator.specs.Aggregates.{ReadTask}
use Rattle.tk_aggregator.specs.Beside.{ReadsTaskBeside}
use Rattle.tk_aggregator.proofs.StandingLemmas.{whole}
use Rattle.tk_aggregator.proofs.HandledLemmas.{pairs-count}
use Rattle.tk_aggregator.proofs.ReadAtLemmas.{task_at_stands, task_stays_hand, task_reads_beside, task_at_times}
use Rattle.tk_aggregator.proofs.aggregator.Aggregator.read_task_at.Goals as goal

pub read_task_at-requires-clause-handles : goal.read_task_at-requires-clause-handles
read_task_at-requires-clause-handles g c = pairs-count ReadTask _ _ c.self.invariant.0.tasks

pub invariant_of-self : goal.invariant_of-self
invariant_of-self g c =
    let a = c.self.inside in
    let k = c.read_task_at.ensures in (
      task_at_stands a.tables a.told a.tasks.items a.resources.items a.ops.items a.held a.last c.self.invariant.0 c.read_task_at.new.tables c.read_task_at.new.told
          c.args.place k.reads.2 c.args.callers.now c.read_task_at.new.hand k.reads.0 k.reads.1 c.read_task_at.new.handles.items k.reads.3 k.reads.4 k.reads.5 k.reads.6 k.alone k.told,
      task_at_times a.tables c.read_task_at.new.tables c.args.place k.reads.2 k.reads.6 a.timing c.self.invariant.1,
    )

pub returns-clause-hand : goal.returns-clause-hand
returns-clause-hand g c =
    let a = c.self.inside in
    let k = c.read_task_at.ensures in
    task_stays_hand a.tables a.told a.tasks.items a.resources.items a.ops.items a.held a.last c.self.invariant.0 c.read_task_at.new.tables c.read_task_at.new.told
    c.args.place k.reads.2 c.args.callers.now c.read_task_at.new.hand k.reads.0 k.reads.1 c.read_task_at.new.handles.items k.reads.3 k.reads.4 k.reads.5 k.reads.6 k.alone k.told

pub returns-clause-reads : goal.returns-clause-reads
returns-clause-reads g c =
    let a = c.self.inside in
    let k = c.read_task_at.ensures in
    subst (λ old. ReadsTaskBeside c.args.callers.now old (whole c.read_task_at.new.tables c.read_task_at.new.told c.read_task_at.new.handles.items a.resources.items a.ops.items a.held a.last a.broken a.retention a.timing) (Some c.args.place)) c.self.view_is
    (task_reads_beside a.tables a.told a.tasks.items a.resources.items a.ops.items a.held a.last c.self.invariant.0 c.read_task_at.new.tables c.read_task_at.new.told
    c.args.place k.reads.2 c.args.callers.now c.read_task_at.new.hand k.reads.0 k.reads.1 c.read_task_at.new.handles.items k.reads.3 k.reads.4 k.reads.5 k.reads.6 k.alone k.told a.broken a.retention a.timing)
