use Rattle.std.proofs.Common.{◌≡◌, ◌-◌, Some, slice_get, length, rules, ap, subst}
use Rattle.std.proofs.lemmas.Bool.{leb-true}
use Rattle.tk_screen.specs.Rankings.{place_of}
use Rattle.tk_screen.proofs.RankLemmas.{past_last}
use Rattle.tk_screen.proofs.top.Top.is_past.Goals as goal

pub returns-then-len-self-clause-last : goal.returns-then-len-self-clause-last
returns-then-len-self-clause-last c h =
    let last : slice_get c.self.inside.items.items (length c.self.inside.items.items - 1) ≡ Some c.in-Some.last.now = search rules in
    let same : c.self.inside.items.items ≡ c.args.self.now.items = ap (λ w. w.items) c.self.view_is in
    subst (λ ys. place_of c.args.key ys ≡ length ys) same
    (past_last c.args.key c.self.inside.items.items c.in-Some.last.now c.self.invariant.2 last (leb-true _ _ h))
