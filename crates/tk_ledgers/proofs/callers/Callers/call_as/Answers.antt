use Rattle.std.proofs.Common.{◌∙◌, sym, subst}
use Rattle.tk_cell.specs.Views.{Known}
use Rattle.tk_ledgers.specs.Callers.{CallsAs}
use Rattle.tk_ledgers.specs.Hands.{MayCall}
use Rattle.tk_ledgers.proofs.CallersLemmas.{may_hold, may_go, may_make, hand_calls, live_then}
use Rattle.tk_ledgers.proofs.callers.Callers.call_as.Goals as goal

pub call_as-requires-clause-held : goal.call_as-requires-clause-held
call_as-requires-clause-held g c =
    let m = g.O.Sequential.meaning in let role = g.K.Role.role in
    let may = subst (λ (t : Known _ _ _). MayCall m role t.view c.args.number c.args.call) (sym c.self.view_is) c.requires.may in
    may_hold m role c.self.inside.token.view c.self.invariant.1 c.args.number c.args.call may

pub call_as-requires-clause-role : goal.call_as-requires-clause-role
call_as-requires-clause-role g c =
    let m = g.O.Sequential.meaning in let role = g.K.Role.role in
    let may = subst (λ (t : Known _ _ _). MayCall m role t.view c.args.number c.args.call) (sym c.self.view_is) c.requires.may in
    may_make m role c.self.inside.token.view c.self.invariant.1 c.args.number c.args.call may

pub call_as-requires-clause-going : goal.call_as-requires-clause-going
call_as-requires-clause-going g c =
    let m = g.O.Sequential.meaning in let role = g.K.Role.role in
    let may = subst (λ (t : Known _ _ _). MayCall m role t.view c.args.number c.args.call) (sym c.self.view_is) c.requires.may in
    may_go m role c.self.inside.token.view c.self.invariant.1 c.args.number c.args.call may

pub invariant_of-self : goal.invariant_of-self
invariant_of-self g c =
    let m = g.O.Sequential.meaning in let role = g.K.Role.role in
    let may = subst (λ (t : Known _ _ _). MayCall m role t.view c.args.number c.args.call) (sym c.self.view_is) c.requires.may in (
      c.call_as.ensures.own ∙ c.self.invariant.0,
      hand_calls m role c.self.inside.token.view c.self.invariant.1 g.met.O.Sequential.numbers_are_new c.args.number c.args.call may c.call_as.result c.call_as.new.token.view c.call_as.ensures.entry c.requires.draws,
    )

pub returns-clause-entry : goal.returns-clause-entry
returns-clause-entry g c =
    let m = g.O.Sequential.meaning in let role = g.K.Role.role in
    let may = subst (λ (t : Known _ _ _). MayCall m role t.view c.args.number c.args.call) (sym c.self.view_is) c.requires.may in
    subst (λ (t : Known _ _ _). CallsAs m t c.args.number c.args.call c.call_as.result c.call_as.new.token) c.self.view_is (record {
      owner_held = c.self.invariant.1.owner_held;
      ledger = c.call_as.ensures.own;
      calls = c.call_as.ensures.order;
      now_live = live_then m role c.self.inside.token.view c.self.invariant.1 g.met.O.Sequential.numbers_are_new c.args.number c.args.call may c.call_as.result c.call_as.new.token.view c.call_as.ensures.entry;
      made = c.call_as.ensures.entry;
    })
