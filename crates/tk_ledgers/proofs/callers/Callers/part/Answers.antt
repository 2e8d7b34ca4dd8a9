use Rattle.std.proofs.Common.{◌∙◌, ap, sym, subst}
use Rattle.tk_cell.specs.Views.{Known, Holds, known, after_split, split_off}
use Rattle.tk_ledgers.specs.Callers.{HandsOut, IsLive, live}
use Rattle.tk_ledgers.specs.Handles.{HasRole}
use Rattle.tk_ledgers.specs.Hands.{IsHand, Others}
use Rattle.tk_ledgers.proofs.CallersLemmas.{live_is, hand_left, live_left, given_role, given_others}
use Rattle.tk_ledgers.proofs.callers.Callers.part.Goals as goal

pub go_on_as-requires-clause-held : goal.go_on_as-requires-clause-held
go_on_as-requires-clause-held g c = c.self.invariant.1.owner_held

pub part-token-requires-clause-held : goal.part-token-requires-clause-held
part-token-requires-clause-held g c =
    let m = g.O.Sequential.meaning in
    let alive = subst (λ (t : Known _ _ _). IsLive m t.view c.args.number) (sym c.self.view_is) c.requires.live in
    subst (λ (t : Known _ _ _). Holds t.view c.args.number) (sym c.go_on_as.ensures) (live_is m c.self.inside.token.view c.args.number alive).2

pub part-token-requires-clause-other : goal.part-token-requires-clause-other
part-token-requires-clause-other g c is =
    let m = g.O.Sequential.meaning in
    let alive = subst (λ (t : Known _ _ _). IsLive m t.view c.args.number) (sym c.self.view_is) c.requires.live in
    (live_is m c.self.inside.token.view c.args.number alive).0 (is ∙ ap (λ (t : Known _ _ _). t.view.caller) c.go_on_as.ensures)

pub new-requires-clause-role : goal.new-requires-clause-role
new-requires-clause-role g c =
    let m = g.O.Sequential.meaning in let role = g.K.Role.role in
    let alive = subst (λ (t : Known _ _ _). IsLive m t.view c.args.number) (sym c.self.view_is) c.requires.live in
    let split = c.part-token.ensures.given ∙ ap (λ (t : Known _ _ _). known t.ledger (split_off c.args.number t.view)) c.go_on_as.ensures in
    subst (λ (t : Known _ _ _). HasRole m role t.view) (sym split) (given_role m role c.self.inside.token.view c.self.invariant.1 c.args.number alive)

pub invariant_of-self : goal.invariant_of-self
invariant_of-self g c =
    let m = g.O.Sequential.meaning in let role = g.K.Role.role in
    let alive = subst (λ (t : Known _ _ _). IsLive m t.view c.args.number) (sym c.self.view_is) c.requires.live in
    let left = c.part-token.ensures.kept ∙ ap (λ (t : Known _ _ _). known t.ledger (after_split c.args.number t.view)) c.go_on_as.ensures in (
      ap (λ (t : Known _ _ _). t.ledger) left ∙ c.self.invariant.0,
      subst (λ (t : Known _ _ _). IsHand m role t.view) (sym left) (hand_left m role c.self.inside.token.view c.self.invariant.1 c.args.number alive),
    )

pub returns-clause-ok : goal.returns-clause-ok
returns-clause-ok g c =
    let m = g.O.Sequential.meaning in let role = g.K.Role.role in let n = c.args.number in
    let alive = subst (λ (t : Known _ _ _). IsLive m t.view n) (sym c.self.view_is) c.requires.live in
    let left = c.part-token.ensures.kept ∙ ap (λ (t : Known _ _ _). known t.ledger (after_split n t.view)) c.go_on_as.ensures in
    let split = c.part-token.ensures.given ∙ ap (λ (t : Known _ _ _). known t.ledger (split_off n t.view)) c.go_on_as.ensures in
    subst (λ (t : Known _ _ _). HandsOut m t n c.part-token.new.token c.new.result) c.self.view_is (record {
      was_live = alive;
      now_live = ap (λ (t : Known _ _ _). live m t.view) left ∙ live_left m role c.self.inside.token.view c.self.invariant.1 n alive;
      kept = left;
      given = c.new.ensures ∙ split;
    })

pub returns-clause-others : goal.returns-clause-others
returns-clause-others g c =
    let m = g.O.Sequential.meaning in let role = g.K.Role.role in
    let alive = subst (λ (t : Known _ _ _). IsLive m t.view c.args.number) (sym c.self.view_is) c.requires.live in
    let split = c.part-token.ensures.given ∙ ap (λ (t : Known _ _ _). known t.ledger (split_off c.args.number t.view)) c.go_on_as.ensures in
    subst (λ (t : Known _ _ _). Others m role t.view) (sym (c.new.ensures ∙ split)) (given_others m role c.self.inside.token.view c.self.invariant.1 c.args.number alive)
