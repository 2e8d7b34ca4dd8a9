use Rattle.std.proofs.Common.{ap, sym, subst, ◌∙◌}
use Rattle.tk_core.specs.declared.reply.Reply.TheVariants.{Number}
use Rattle.tk_cell.specs.Views.{Known}
use Rattle.tk_cell.proofs.RoleLemmas.{drawn_held, drawn_other}
use Rattle.tk_ledgers.specs.Handles.{HasRole}
use Rattle.tk_ledgers.proofs.HandleLemmas.{role_calls, role_after_split, drawn_role, drawn_number}
use Rattle.tk_ledgers.proofs.handle.Handle.draw.Goals as goal

pub split-token-requires-clause-held : goal.split-token-requires-clause-held
split-token-requires-clause-held g c =
    let m = g.O.Sequential.meaning in let n = c.in-Number.n in let entry = c.in-Number.ensures.entry in
    drawn_held m c.self.inside.token.view c.args.call (Number n) c.call.new.token.view entry n (drawn_number m c.self.inside.token.view c.args.call n c.call.new.token.view entry c.requires.form)

pub split-token-requires-clause-other : goal.split-token-requires-clause-other
split-token-requires-clause-other g c =
    let m = g.O.Sequential.meaning in let n = c.in-Number.n in let entry = c.in-Number.ensures.entry in
    drawn_other m c.self.inside.token.view c.args.call (Number n) c.call.new.token.view entry n (drawn_number m c.self.inside.token.view c.args.call n c.call.new.token.view entry c.requires.form)

pub split-token-requires-clause-unused : goal.split-token-requires-clause-unused
split-token-requires-clause-unused g c =
    let m = g.O.Sequential.meaning in let n = c.in-Number.n in let entry = c.in-Number.ensures.entry in
    entry.drawn n (drawn_number m c.self.inside.token.view c.args.call n c.call.new.token.view entry c.requires.form)

pub new-requires-clause-role : goal.new-requires-clause-role
new-requires-clause-role g c =
    let m = g.O.Sequential.meaning in let n = c.in-Number.n in let entry = c.in-Number.ensures.entry in
    let number = drawn_number m c.self.inside.token.view c.args.call n c.call.new.token.view entry c.requires.form in
    subst (λ (k : Known _ _ _). HasRole m g.D.Role.role k.view) (sym c.split-token.ensures.given)
    (drawn_role m g.D.Role.role c.self.inside.token.view c.args.call (Number n) c.call.new.token.view entry g.met.O.Sequential.numbers_are_new c.requires.role n number)

pub invariant_of-self : goal.invariant_of-self
invariant_of-self g c =
    let m = g.O.Sequential.meaning in let n = c.in-Number.n in let kept = c.split-token.ensures.kept in (
      ap (λ (k : Known _ _ _). k.ledger) kept ∙ (c.call.ensures.own ∙ c.self.invariant.0),
      subst (λ (k : Known _ _ _). HasRole m g.K.Role.role k.view) (sym kept)
          (role_after_split m g.K.Role.role c.call.new.token.view n
          (role_calls m g.K.Role.role c.self.inside.token.view c.args.call (Number n) c.call.new.token.view c.in-Number.ensures.entry c.requires.goes_on c.self.invariant.1)),
    )

pub invariant_of-self-in-Refused-1 : goal.invariant_of-self-in-Refused-1
invariant_of-self-in-Refused-1 g c = (
  c.call.ensures.own ∙ c.self.invariant.0,
  role_calls g.O.Sequential.meaning g.K.Role.role c.self.inside.token.view c.args.call c.call.result c.call.new.token.view c.call.ensures.entry c.requires.goes_on c.self.invariant.1,
)
