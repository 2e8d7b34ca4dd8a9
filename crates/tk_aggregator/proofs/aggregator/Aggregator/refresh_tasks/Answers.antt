use Rattle.std.proofs.Common.{subst}
use Rattle.tk_aggregator.specs.Aggregates.{ReadTask, ReadsTasks}
use Rattle.tk_aggregator.proofs.StandingLemmas.{whole}
use Rattle.tk_aggregator.proofs.HandledLemmas.{pairs-count}
use Rattle.tk_aggregator.proofs.RefreshLemmas.{tasks_standing, tasks_read, tasks_times}
use Rattle.tk_aggregator.proofs.aggregator.Aggregator.refresh_tasks.Goals as goal

pub read_tasks-requires : goal.read_tasks-requires
read_tasks-requires g c = pairs-count ReadTask _ _ c.self.invariant.0.tasks

pub invariant_of-self : goal.invariant_of-self
invariant_of-self g c =
    let a = c.self.inside in
    let k = c.read_tasks.ensures in (
      tasks_standing a.tables a.told a.tasks.items a.resources.items a.ops.items a.held a.last c.self.invariant.0 c.read_tasks.new.tables c.read_tasks.new.told
          k.reads.0 c.read_tasks.new.handles.items k.reads.1 k.reads.2 k.alone k.told,
      tasks_times a.tables c.read_tasks.new.tables a.tasks.items k.reads.0 c.read_tasks.new.handles.items c.self.invariant.0.tasks k.reads.1 k.reads.2 a.timing c.self.invariant.1,
    )

pub returns : goal.returns
returns g c =
    let a = c.self.inside in
    let k = c.read_tasks.ensures in
    subst (λ old. ReadsTasks old (whole c.read_tasks.new.tables c.read_tasks.new.told c.read_tasks.new.handles.items a.resources.items a.ops.items a.held a.last a.broken a.retention a.timing)) c.self.view_is
    (tasks_read a.tables a.told a.tasks.items a.resources.items a.ops.items a.held a.last c.self.invariant.0 c.read_tasks.new.tables c.read_tasks.new.told
    k.reads.0 c.read_tasks.new.handles.items k.reads.1 k.reads.2 k.alone k.told a.broken a.retention a.timing)
