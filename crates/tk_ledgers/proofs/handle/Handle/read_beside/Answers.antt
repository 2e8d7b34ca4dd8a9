use Rattle.std.proofs.Common.{◌∙◌}
use Rattle.tk_ledgers.proofs.HandleLemmas.{role_beside, reads}
use Rattle.tk_ledgers.proofs.handle.Handle.read_beside.Goals as goal

pub unreachable-requires : goal.unreachable-requires
unreachable-requires g c =
    let form = reads g.O.Sequential.meaning c.call_beside-reply.ensures.beside.q_met c.args.call c.call_beside-reply.result c.call_beside-reply.ensures.beside.q_called c.requires.form c.call_beside-reply.ensures.beside.entry in
    c.in_default.not-Shown form.0 form.1

pub invariant_of-self : goal.invariant_of-self
invariant_of-self g c = (
  c.call_beside-reply.ensures.other ∙ c.self.invariant.0,
  role_beside g.O.Sequential.meaning g.K.Role.role c.args.token.now.view c.self.inside.token.view c.call_beside-reply.new.token.view c.call_beside-reply.new.other.view c.args.call c.call_beside-reply.result c.call_beside-reply.ensures.beside c.requires.goes_on c.self.invariant.1,
)
