use Rattle.std.proofs.Common.{false, refl, sym, subst, inl}
use Rattle.tk_core.specs.declared.reply.Reply.TheVariants.{Woken}
use Rattle.tk_core.specs.declared.task.call.TaskCall.TheVariants.{CloneWaker, WakeRef}
use Rattle.tk_core.specs.TaskMeaning.{task_meaning}
use Rattle.tk_core.specs.Laws.TaskLaws.{numbers_are_new}
use Rattle.tk_cell.specs.Calls.{Calls}
use Rattle.tk_ledgers.specs.Callers.{HoldsOnly}
use Rattle.tk_ledgers.specs.Tasks.{TaskSight}
use Rattle.tk_ledgers.proofs.CallersLemmas.{calls_keep_only}
use Rattle.tk_ledgers_tests.proofs.HandUses.{back_live}
use Rattle.tk_ledgers_tests.proofs.tests.callers.goes_on_in_the_hand.Goals as goal

pub take_back-requires-clause-wakers : goal.take_back-requires-clause-wakers
take_back-requires-clause-wakers g c =
    let only = calls_keep_only task_meaning numbers_are_new c.in-Ok.handle.token.view c.wake_by_ref_from_outside.new.self.token.view (WakeRef 450 false) CloneWaker (Woken c.wake_by_ref_from_outside.result) c.wake_by_ref_from_outside.ensures.entry (inl refl) c.in-Ok.ensures.waker in
    subst (λ (h : TaskSight). HoldsOnly task_meaning CloneWaker h.token.view) (sym c.retire.ensures) only

pub returns-in-Ok-clause-live : goal.returns-in-Ok-clause-live
returns-in-Ok-clause-live g c =
    let made = c.in-Ok.handle.token in
    let calls = subst (λ (h : TaskSight). Calls task_meaning c.in-Ok.handle.token.view (WakeRef 450 false) (Woken c.wake_by_ref_from_outside.result) h.token.view) (sym c.retire.ensures) c.wake_by_ref_from_outside.ensures.entry in
    back_live task_meaning c.args.callers.now.token c.part.new.self.token made c.retire.result.token c.take_back.new.self.token c.args.waker (WakeRef 450 false) (Woken c.wake_by_ref_from_outside.result) c.in-Ok.ensures.ok calls refl c.take_back.ensures.back
