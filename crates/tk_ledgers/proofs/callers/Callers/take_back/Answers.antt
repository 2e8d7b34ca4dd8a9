use Rattle.std.proofs.Common.{◌∙◌, subst}
use Rattle.tk_cell.specs.Views.{Known}
use Rattle.tk_ledgers.specs.Callers.{TakesBack}
use Rattle.tk_ledgers.proofs.CallersLemmas.{hand_joins, live_joined}
use Rattle.tk_ledgers.proofs.callers.Callers.take_back.Goals as goal

pub invariant_of-self : goal.invariant_of-self
invariant_of-self g c = (
  c.absorb.ensures.own ∙ c.self.invariant.0,
  hand_joins g.O.Sequential.meaning g.K.Role.role c.self.inside.token.view c.self.invariant.1 c.args.token.view c.absorb.new.token.view c.requires.others c.absorb.ensures.joined,
)

pub returns-clause-back : goal.returns-clause-back
returns-clause-back g c =
    let m = g.O.Sequential.meaning in
    subst (λ (t : Known _ _ _). TakesBack m t c.args.token c.absorb.new.token) c.self.view_is (record {
      ledger = c.absorb.ensures.own;
      now_live = live_joined m g.K.Role.role c.self.inside.token.view c.self.invariant.1 c.args.token.view c.absorb.new.token.view c.requires.others c.absorb.ensures.joined;
      joined = c.absorb.ensures.joined;
    })
