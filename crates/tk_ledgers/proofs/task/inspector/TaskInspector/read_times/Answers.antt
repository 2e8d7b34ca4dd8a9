use Rattle.tk_ledgers.proofs.task.inspector.TaskInspector.read_times.Goals as goal

pub invariant_of-self : goal.invariant_of-self
invariant_of-self g c = c.read_times.ensures.task c.self.inside.id c.self.invariant
