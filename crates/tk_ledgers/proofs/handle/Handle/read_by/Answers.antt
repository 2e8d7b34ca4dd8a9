use Rattle.std.proofs.Common.{◌∙◌}
use Rattle.tk_ledgers.proofs.HandleLemmas.{role_lends}
use Rattle.tk_ledgers.proofs.handle.Handle.read_by.Goals as goal

pub invariant_of-self : goal.invariant_of-self
invariant_of-self g c = (
  c.read_beside.ensures.token ∙ c.self.invariant.0,
  role_lends g.O.Sequential.meaning g.K.Role.role c.self.inside.token.view c.args.reader.now.view c.read_beside.new.token.view c.read_beside.new.self.view c.args.call _ c.read_beside.ensures.beside c.self.invariant.1,
)
