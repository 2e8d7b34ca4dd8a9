use Rattle.std.proofs.Common.{subst, ◌∙◌, rules}
use Rattle.tk_core.specs.declared.reply.Reply.TheVariants.{Woken}
use Rattle.tk_ledgers.specs.Scopes.{Scoped, ScopeGrows}
use Rattle.tk_ledgers.proofs.ScopeLemmas.{at_moment, scope_wakes, polling_in_scope}
use Rattle.tk_ledgers.proofs.task.scope.PollScope.wake_by_ref.Goals as goal

pub invariant_of-self : goal.invariant_of-self
invariant_of-self g c =
    let e = c.wake_by_ref.ensures in
    let grown = scope_wakes c.self.inside.moment c.self.inside.owner c.wake_by_ref.new.self e.id e.ledger e.caller e.times c.args.moment (Woken c.wake_by_ref.result) (search rules) in
    polling_in_scope (at_moment c.self.inside.moment c.self.inside.owner) (at_moment c.self.inside.moment c.wake_by_ref.new.self) grown ∙ c.self.invariant

pub returns-clause-scoped : goal.returns-clause-scoped
returns-clause-scoped g c =
    let e = c.wake_by_ref.ensures in
    subst (λ (s : Scoped). ScopeGrows s (at_moment c.self.inside.moment c.wake_by_ref.new.self)) c.self.view_is
    (scope_wakes c.self.inside.moment c.self.inside.owner c.wake_by_ref.new.self e.id e.ledger e.caller e.times c.args.moment (Woken c.wake_by_ref.result) (search rules))
