use Rattle.std.proofs.Common.{refl}
use Rattle.tk_core.specs.declared.attrs.AttrOp.TheVariants.{Add}
use Rattle.tk_core.specs.declared.op.call.OpCall.TheVariants.{Attr}
use Rattle.tk_ledgers.proofs.PollLemmas.{kept_attempt}
use Rattle.tk_ledgers.proofs.OpPollLemmas.{op_polls, changes_find_it_open}
use Rattle.tk_ledgers.proofs.op.owner.OpOwner.add.Goals as goal

pub invariant_of-self : goal.invariant_of-self
invariant_of-self g c = kept_attempt op_polls c.self.inside.handle.view (Attr c.args.index (Add c.args.value)) c.attempt.result c.attempt.new.self.view c.attempt.ensures.ok c.attempt.ensures.err c.attempt.ensures.role (refl, refl) c.self.inside.polling c.self.invariant

pub returns-clause-unclosed : goal.returns-clause-unclosed
returns-clause-unclosed g c = changes_find_it_open c.self.inside.handle.view c.args.index (Add c.args.value) c.attempt.result c.attempt.new.self.view c.attempt.ensures.err c.attempt.ensures.role c.self.inside.polling c.self.invariant
