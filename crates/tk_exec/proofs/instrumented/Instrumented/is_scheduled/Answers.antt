use Rattle.std.proofs.Common.{Option, Some, refl, sym, subst, ◌∙◌}
use Rattle.tk_core.specs.declared.reply.Reply.TheVariants.{Shown}
use Rattle.tk_core.specs.declared.task.call.TaskCall.TheVariants.{Read}
use Rattle.tk_ledgers.specs.Tasks.{TaskSight, owner_calls}
use Rattle.tk_ledgers.proofs.TimedLemmas.{times_stay}
use Rattle.tk_ledgers.proofs.ScopeLemmas.{grows_by_call}
use Rattle.tk_exec.specs.Polls.{Tracked}
use Rattle.tk_exec.specs.Seats.{OwnerReads, IsRead}
use Rattle.tk_exec.proofs.PollLemmas.{at_rest, rests, polling_read}
use Rattle.tk_exec.proofs.instrumented.Instrumented.is_scheduled.Goals as goal

pub invariant_of-self-2 : goal.invariant_of-self-2
invariant_of-self-2 g c =
    let was = sym c.take.ensures.value ∙ c.in-Some.is in
    let rest = at_rest c.self.inside.id c.in-Some.owner c.self.inside.owner c.self.inside.receipt was c.self.invariant in
    let e = c.read-row.ensures in
    let grown = grows_by_call c.in-Some.owner c.read-row.new.self Read (Shown c.read-row.result) e.id e.ledger e.caller e.entry (times_stay (owner_calls c.in-Some.owner) Read (Shown c.read-row.result) c.in-Some.owner.times c.read-row.new.self.times refl e.times) in
    rests c.self.inside.id c.read-row.new.self c.self.inside.receipt rest.0 (e.id ∙ rest.1) (polling_read c.in-Some.owner c.read-row.new.self c.read-row.result grown ∙ rest.2)

pub returns : goal.returns
returns g c =
    let i = c.self.inside in
    let was = sym c.take.ensures.value ∙ c.in-Some.is in
    let e = c.read-row.ensures in
    let grown = grows_by_call c.in-Some.owner c.read-row.new.self Read (Shown c.read-row.result) e.id e.ledger e.caller e.entry (times_stay (owner_calls c.in-Some.owner) Read (Shown c.read-row.result) c.in-Some.owner.times c.read-row.new.self.times refl e.times) in
    let reads : OwnerReads (Some c.in-Some.owner) c.read-row.result.scheduled (Some c.read-row.new.self) = (c.read-row.result, c.read-row.new.self, refl, refl, grown) in
    let after : Tracked g.row.W.Denot = record { id = i.id; owner = Some c.read-row.new.self; receipt = i.receipt; work = i.work } in
    subst (λ (t : Tracked g.row.W.Denot). IsRead t c.read-row.result.scheduled after) c.self.view_is
    (record { id = refl; work = refl; receipt = refl; owner = subst (λ (o : Option TaskSight). OwnerReads o c.read-row.result.scheduled (Some c.read-row.new.self)) (sym was) reads })
