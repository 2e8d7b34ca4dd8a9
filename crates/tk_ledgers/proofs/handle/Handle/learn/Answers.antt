use Rattle.std.proofs.Common.{◌∙◌}
use Rattle.tk_ledgers.proofs.HandleLemmas.{role_joins}
use Rattle.tk_ledgers.proofs.handle.Handle.learn.Goals as goal

pub invariant_of-self : goal.invariant_of-self
invariant_of-self g c = (
  c.absorb.ensures.own ∙ c.self.invariant.0,
  role_joins g.O.Sequential.meaning g.K.Role.role c.self.inside.token.view c.args.other.view c.absorb.new.token.view c.absorb.ensures.joined c.self.invariant.1,
)
