use Rattle.std.proofs.Common.{refl, inl}
use Rattle.tk_core.specs.declared.reply.Reply.TheVariants.{Woken}
use Rattle.tk_core.specs.declared.task.call.TaskCall.TheVariants.{CloneWaker, WakeVal}
use Rattle.tk_core.specs.TaskMeaning.{task_meaning}
use Rattle.tk_core.specs.Laws.TaskLaws.{numbers_are_new}
use Rattle.tk_ledgers.proofs.CallersLemmas.{calls_keep_only}
use Rattle.tk_ledgers_tests.proofs.tests.callers.both_wake.Goals as goal

pub take_back-requires-clause-wakers : goal.take_back-requires-clause-wakers
take_back-requires-clause-wakers g c =
    let w = c.join-first.ensures.first.1 in
    calls_keep_only task_meaning numbers_are_new c.args.one.token.view c.join-first.result.0.token.view (WakeVal w.0 w.1) CloneWaker (Woken w.2) w.3 (inl refl) c.requires.wakers.0

pub take_back-requires-2-clause-wakers : goal.take_back-requires-2-clause-wakers
take_back-requires-2-clause-wakers g c =
    let w = c.join-first.ensures.second.1 in
    calls_keep_only task_meaning numbers_are_new c.args.two.token.view c.join-first.result.1.token.view (WakeVal w.0 w.1) CloneWaker (Woken w.2) w.3 (inl refl) c.requires.wakers.1
