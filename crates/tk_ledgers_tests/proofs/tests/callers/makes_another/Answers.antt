use Rattle.std.proofs.Common.{◌≢◌, ℕ, refl, inl, inr, subst}
use Rattle.tk_core.specs.declared.reply.Refusal.TheVariants.{HandlesSpent}
use Rattle.tk_core.specs.declared.reply.Reply.TheVariants.{Done, Number, Refused}
use Rattle.tk_core.specs.declared.task.call.TaskCall.TheVariants.{CloneWaker, Release}
use Rattle.tk_core.specs.TaskMeaning.{task_meaning}
use Rattle.tk_ledgers.specs.Callers.{IsLive}
use Rattle.tk_ledgers.proofs.CallersLemmas.{calls_keep_live, drawn_is_new}
use Rattle.tk_ledgers_tests.proofs.tests.callers.makes_another.Goals as goal

pub release-requires : goal.release-requires
release-requires g c = (calls_keep_live task_meaning c.args.callers.now.token c.clone_waker.new.self.token c.args.waker CloneWaker (Number c.in-Ok.another) c.in-Ok.ensures.ok).0 c.in-Ok.another refl

pub returns-then-waker-eq2-clause-live : goal.returns-then-waker-eq2-clause-live
returns-then-waker-eq2-clause-live g c =
    let stays = (calls_keep_live task_meaning c.args.callers.now.token c.clone_waker.new.self.token c.args.waker CloneWaker (Number c.in-Ok.another) c.in-Ok.ensures.ok).1 c.args.waker c.requires (inr refl) in
    let apart : c.args.waker ≢ c.in-Ok.another = λ same.
    drawn_is_new task_meaning c.args.callers.now.token c.clone_waker.new.self.token c.args.waker CloneWaker (Number c.in-Ok.another) c.in-Ok.another c.in-Ok.ensures.ok refl
    (subst (λ (n : ℕ). IsLive task_meaning c.args.callers.now.token.view n) same c.requires) in
    (calls_keep_live task_meaning c.clone_waker.new.self.token c.release.new.self.token c.in-Ok.another Release Done c.release.ensures.entry).1 c.args.waker stays (inl apart)

pub returns-else-waker-eq2-clause-live : goal.returns-else-waker-eq2-clause-live
returns-else-waker-eq2-clause-live g c =
    let stays = (calls_keep_live task_meaning c.args.callers.now.token c.clone_waker.new.self.token c.args.waker CloneWaker (Number c.in-Ok.another) c.in-Ok.ensures.ok).1 c.args.waker c.requires (inr refl) in
    let apart : c.args.waker ≢ c.in-Ok.another = λ same.
    drawn_is_new task_meaning c.args.callers.now.token c.clone_waker.new.self.token c.args.waker CloneWaker (Number c.in-Ok.another) c.in-Ok.another c.in-Ok.ensures.ok refl
    (subst (λ (n : ℕ). IsLive task_meaning c.args.callers.now.token.view n) same c.requires) in
    (calls_keep_live task_meaning c.clone_waker.new.self.token c.release.new.self.token c.in-Ok.another Release Done c.release.ensures.entry).1 c.args.waker stays (inl apart)

pub returns-in-Err-clause-live : goal.returns-in-Err-clause-live
returns-in-Err-clause-live g c = (calls_keep_live task_meaning c.args.callers.now.token c.clone_waker.new.self.token c.args.waker CloneWaker (Refused HandlesSpent) c.in-Err.ensures.err.1).1 c.args.waker c.requires (inr refl)
