use Rattle.tk_ledgers.proofs.ScopeLemmas.{scope_more}
use Rattle.tk_exec.proofs.future_work.FutureWork.wait.Goals as goal

pub returns-clause-scoped : goal.returns-clause-scoped
returns-clause-scoped g c = scope_more c.args.scope.now c.keep_waker.new.scope c.wake_by_ref.new.self c.keep_waker.ensures.scoped c.wake_by_ref.ensures.scoped
