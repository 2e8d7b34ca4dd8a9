use Rattle.std.proofs.Common.{◌≡◌, ◌∙◌, subst}
use Rattle.tk_cell.specs.Views.{Known}
use Rattle.tk_ledgers.specs.Callers.{live}
use Rattle.tk_ledgers.proofs.CallersLemmas.{hand_beside, live_beside}
use Rattle.tk_ledgers.proofs.callers.Callers.read_beside.Goals as goal

pub invariant_of-self : goal.invariant_of-self
invariant_of-self g c = (
  c.read_beside.ensures.token ∙ c.self.invariant.0,
  hand_beside g.O.Sequential.meaning c.self.inside.token.view c.args.reader.now.view c.read_beside.new.token.view c.read_beside.new.self.view c.args.call _ c.read_beside.ensures.beside g.K.Role.role c.self.invariant.1,
)

pub returns-clause-live : goal.returns-clause-live
returns-clause-live g c =
    let m = g.O.Sequential.meaning in
    subst (λ (t : Known _ _ _). live m c.read_beside.new.token.view ≡ live m t.view) c.self.view_is
    (live_beside m c.self.inside.token.view c.args.reader.now.view c.read_beside.new.token.view c.read_beside.new.self.view c.args.call _ c.read_beside.ensures.beside)
