use Rattle.std.proofs.Common.{arith}
use Rattle.tk_exec.proofs.OrderLemmas.{whole}
use Rattle.tk_exec.proofs.executor.Executor.len.Goals as goal

pub returns : goal.returns
returns g c =
    let all = whole c.self.inside.tasks.slots c.self.inside.order.entries c.self.inside.next c.self.inside.unfinished c.self.invariant c.self.inside.next c.args.self.now c.self.view_is in
    omega (arith, all, c.len.ensures.len)
