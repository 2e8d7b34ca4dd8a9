use Rattle.tk_ledgers.specs.Handles.{sight}
use Rattle.tk_ledgers.specs.Tasks.{owner_calls}
use Rattle.tk_ledgers.proofs.TimedLemmas.{times_inspected}
use Rattle.tk_ledgers.proofs.task.owner.TaskOwner.inspect_times.Goals as goal

pub invariant_of-self : goal.invariant_of-self
invariant_of-self g c = (
  c.self.invariant.0,
  times_inspected c.self.inside.id (owner_calls (sight c.self.inside.id c.self.inside.handle)) c.self.inside.timed c.inspect.new.timed c.inspect.result c.inspect.ensures.inspects c.self.invariant.1,
)
