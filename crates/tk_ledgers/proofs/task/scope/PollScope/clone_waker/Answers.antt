use Rattle.std.proofs.Common.{subst, ◌∙◌}
use Rattle.tk_ledgers.specs.Scopes.{Scoped, ScopeGrows}
use Rattle.tk_ledgers.proofs.ScopeLemmas.{at_moment, scope_cloned, polling_in_scope}
use Rattle.tk_ledgers.proofs.task.scope.PollScope.clone_waker.Goals as goal

pub invariant_of-self : goal.invariant_of-self
invariant_of-self g c =
    let e = c.clone_waker.ensures in
    let grown = scope_cloned c.self.inside.moment c.self.inside.owner c.clone_waker.new.self e.id e.ledger e.caller e.times c.clone_waker.result e.ok e.err in
    polling_in_scope (at_moment c.self.inside.moment c.self.inside.owner) (at_moment c.self.inside.moment c.clone_waker.new.self) grown ∙ c.self.invariant

pub returns-clause-scoped : goal.returns-clause-scoped
returns-clause-scoped g c =
    let e = c.clone_waker.ensures in
    subst (λ (s : Scoped). ScopeGrows s (at_moment c.self.inside.moment c.clone_waker.new.self)) c.self.view_is
    (scope_cloned c.self.inside.moment c.self.inside.owner c.clone_waker.new.self e.id e.ledger e.caller e.times c.clone_waker.result e.ok e.err)
