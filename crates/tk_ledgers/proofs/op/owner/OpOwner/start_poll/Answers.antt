use Rattle.std.proofs.Common.{◌≡◌, true, false, not, refl, ap, sym, subst, ◌∙◌}
use Rattle.tk_core.specs.declared.reply.Refusal.{Refusal}
use Rattle.tk_core.specs.declared.reply.Refusal.TheVariants.{AlreadyPolling}
use Rattle.tk_core.specs.declared.reply.Reply.TheVariants.{Refused}
use Rattle.tk_core.specs.declared.op.call.OpCall.TheVariants.{PollStart}
use Rattle.tk_core.specs.OpMeaning.{op_meaning}
use Rattle.tk_cell.specs.Calls.{Calls}
use Rattle.tk_ledgers.specs.Ops.{OpSight, is_polling}
use Rattle.tk_ledgers.proofs.PollLemmas.{started, unstarted, kept_refused}
use Rattle.tk_ledgers.proofs.OpPollLemmas.{op_polls}
use Rattle.tk_ledgers.proofs.op.owner.OpOwner.start_poll.Goals as goal

pub invariant_of-self : goal.invariant_of-self
invariant_of-self g c = (started op_polls c.self.inside.handle.view c.args.moment c.attempt.new.self.view c.in-Ok.ensures.ok c.attempt.ensures.role c.self.inside.polling c.self.invariant).1

pub invariant_of-self-in-Err : goal.invariant_of-self-in-Err
invariant_of-self-in-Err g c = kept_refused op_polls c.self.inside.handle.view (PollStart c.args.moment) (Refused c.in-Err.refusal) c.attempt.new.self.view c.in-Err.ensures.err c.attempt.ensures.role refl c.self.inside.polling c.self.invariant

pub returns-in-Ok-clause-exact : goal.returns-in-Ok-clause-exact
returns-in-Ok-clause-exact g c =
    let before = (started op_polls c.self.inside.handle.view c.args.moment c.attempt.new.self.view c.in-Ok.ensures.ok c.attempt.ensures.role c.self.inside.polling c.self.invariant).0 in
    subst (λ (h : OpSight). true ≡ not (is_polling h)) c.self.view_is (ap (λ b. not b) (sym (c.self.invariant.0 ∙ before)))

pub returns-in-Err-clause-exact : goal.returns-in-Err-clause-exact
returns-in-Err-clause-exact g c =
    let before = (unstarted op_polls c.self.inside.handle.view c.args.moment c.in-Err.refusal c.attempt.new.self.view c.in-Err.ensures.err c.attempt.ensures.role c.self.inside.polling c.self.invariant).0 in
    subst (λ (h : OpSight). false ≡ not (is_polling h)) c.self.view_is (ap (λ b. not b) (sym (c.self.invariant.0 ∙ before)))

pub returns-in-Err-clause-already_polling : goal.returns-in-Err-clause-already_polling
returns-in-Err-clause-already_polling g c =
    let refusal = (unstarted op_polls c.self.inside.handle.view c.args.moment c.in-Err.refusal c.attempt.new.self.view c.in-Err.ensures.err c.attempt.ensures.role c.self.inside.polling c.self.invariant).1 in (
      refusal,
      subst (λ (h : OpSight). Calls op_meaning h.token.view (PollStart c.args.moment) (Refused AlreadyPolling) c.attempt.new.self.view) c.self.view_is
          (subst (λ (r : Refusal). Calls op_meaning c.self.inside.handle.view (PollStart c.args.moment) (Refused r) c.attempt.new.self.view) refusal c.in-Err.ensures.err),
    )
