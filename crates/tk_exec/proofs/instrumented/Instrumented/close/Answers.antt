use Rattle.std.proofs.Common.{◌≡◌, Option, Some, refl, ap, sym, subst, ◌∙◌}
use Rattle.tk_core.specs.declared.reply.Reply.TheVariants.{Done}
use Rattle.tk_core.specs.declared.task.call.TaskCall.TheVariants.{Close}
use Rattle.tk_ledgers.specs.Tasks.{TaskSight, owner_calls}
use Rattle.tk_ledgers.proofs.TimedLemmas.{times_stay}
use Rattle.tk_ledgers.proofs.ScopeLemmas.{grows_by_call}
use Rattle.tk_exec.specs.Polls.{Tracked, ClosedAt}
use Rattle.tk_exec.proofs.instrumented.Instrumented.close.Goals as goal

pub returns-in-Some-default : goal.returns-in-Some-default
returns-in-Some-default g c =
    let owner = c.in-Some-default.owner in
    let e = c.in-Ok.ensures in
    let shut = grows_by_call owner c.in-Ok.receipt (Close c.args.moment) Done e.id e.ledger e.caller e.ok (times_stay (owner_calls owner) (Close c.args.moment) Done owner.times c.in-Ok.receipt.times refl e.times) in
    let was : c.args.self.owner ≡ Some owner = sym (ap (λ (t : Tracked g.row.W.Denot). t.owner) c.self.view_is) ∙ c.in-Some-default.is-0 in
    subst (λ (o : Option TaskSight). ClosedAt c.args.moment o c.args.self.receipt c.in-Ok.receipt) (sym was) shut
