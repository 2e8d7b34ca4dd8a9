use Rattle.std.proofs.Common.{refl, subst}
use Rattle.tk_ledgers.specs.Handles.{sight_with}
use Rattle.tk_ledgers.specs.Tasks.{TaskSight}
use Rattle.tk_ledgers.specs.Times.{IsTimed}
use Rattle.tk_ledgers.specs.Timed.{times_of}
use Rattle.tk_ledgers.proofs.TimedLemmas.{is_timed}
use Rattle.tk_ledgers.proofs.task.owner.TaskOwner.has_times.Goals as goal

pub returns-clause-timed : goal.returns-clause-timed
returns-clause-timed c =
    let i = c.self.inside in
    subst (λ (h : TaskSight). IsTimed h) c.self.view_is (is_timed i.id (sight_with i.id i.handle (times_of i.timed)) i.timed refl c.self.invariant.1)
