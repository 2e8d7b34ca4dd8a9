use Rattle.std.proofs.Common.{◌≡◌, true, false, not, refl, ap, sym, subst, ◌∙◌}
use Rattle.tk_core.specs.declared.reply.Refusal.{Refusal}
use Rattle.tk_core.specs.declared.reply.Refusal.TheVariants.{AlreadyPolling}
use Rattle.tk_core.specs.declared.reply.Reply.TheVariants.{Refused}
use Rattle.tk_core.specs.declared.op.call.OpCall.TheVariants.{Close}
use Rattle.tk_core.specs.OpMeaning.{op_meaning}
use Rattle.tk_cell.specs.Calls.{Calls}
use Rattle.tk_ledgers.specs.Ops.{OpSight, is_polling}
use Rattle.tk_ledgers.proofs.PollLemmas.{closed, unclosed, kept_refused}
use Rattle.tk_ledgers.proofs.OpPollLemmas.{op_polls}
use Rattle.tk_ledgers.proofs.op.owner.OpOwner.close.Goals as goal

pub invariant_of-result : goal.invariant_of-result
invariant_of-result g c = kept_refused op_polls c.self.inside.handle.view (Close c.args.moment) (Refused c.in-Err.refusal) c.attempt.new.self.view c.in-Err.ensures.err c.attempt.ensures.role refl c.self.inside.polling c.self.invariant

pub returns-in-Ok-clause-exact : goal.returns-in-Ok-clause-exact
returns-in-Ok-clause-exact g c =
    let idle = closed op_polls c.self.inside.handle.view c.args.moment c.attempt.new.self.view c.in-Ok.ensures.ok c.attempt.ensures.role c.self.inside.polling c.self.invariant in
    subst (λ (h : OpSight). true ≡ not (is_polling h)) c.self.view_is (ap (λ b. not b) (sym (c.self.invariant.0 ∙ idle)))

pub returns-in-Err-clause-exact : goal.returns-in-Err-clause-exact
returns-in-Err-clause-exact g c =
    let busy = unclosed op_polls c.self.inside.handle.view c.args.moment c.in-Err.refusal c.attempt.new.self.view c.in-Err.ensures.err c.attempt.ensures.role c.self.inside.polling c.self.invariant in
    subst (λ (h : OpSight). false ≡ not (is_polling h)) c.self.view_is (ap (λ b. not b) (sym (c.self.invariant.0 ∙ busy.0)))

pub returns-in-Err-clause-already_polling : goal.returns-in-Err-clause-already_polling
returns-in-Err-clause-already_polling g c =
    let busy = unclosed op_polls c.self.inside.handle.view c.args.moment c.in-Err.refusal c.attempt.new.self.view c.in-Err.ensures.err c.attempt.ensures.role c.self.inside.polling c.self.invariant in (
      busy.1,
      subst (λ (h : OpSight). Calls op_meaning h.token.view (Close c.args.moment) (Refused AlreadyPolling) c.attempt.new.self.view) c.self.view_is
          (subst (λ (r : Refusal). Calls op_meaning c.self.inside.handle.view (Close c.args.moment) (Refused r) c.attempt.new.self.view) busy.1 c.in-Err.ensures.err),
    )
