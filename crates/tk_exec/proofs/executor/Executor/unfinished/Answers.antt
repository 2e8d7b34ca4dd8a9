use Rattle.tk_exec.proofs.OrderLemmas.{counts}
use Rattle.tk_exec.proofs.executor.Executor.unfinished.Goals as goal

pub returns : goal.returns
returns g c =
    counts c.self.inside.tasks.slots c.self.inside.order.entries c.self.inside.next c.self.inside.unfinished c.self.invariant c.self.inside.next c.args.self.now c.self.view_is
