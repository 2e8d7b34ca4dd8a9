use Rattle.std.proofs.Common.{◌∙◌}
use Rattle.tk_ledgers.proofs.HandleLemmas.{role_calls}
use Rattle.tk_ledgers.proofs.handle.Handle.call.Goals as goal

pub invariant_of-self : goal.invariant_of-self
invariant_of-self g c = (
  c.call.ensures.own ∙ c.self.invariant.0,
  role_calls g.O.Sequential.meaning g.K.Role.role c.self.inside.token.view c.args.call c.call.result c.call.new.token.view c.call.ensures.entry c.requires.goes_on c.self.invariant.1,
)
