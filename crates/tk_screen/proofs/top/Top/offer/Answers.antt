use Rattle.std.proofs.Common.{◌≡◌, take, rules, subst, sym}
use Rattle.std.specs.List.{insert}
use Rattle.tk_screen.specs.Rankings.{place_of, ranked_in}
use Rattle.tk_screen.proofs.RankLemmas.{not_in, offered, falls_on}
use Rattle.tk_screen.proofs.top.Top.offer.Goals as goal

pub returns-then-is_past-clause-items : goal.returns-then-is_past-clause-items
returns-then-is_past-clause-items c =
    sym (subst (λ n. take n (ranked_in c.args.item c.args.self.now.items) ≡ c.args.self.now.items) (c.is_past.ensures.full c.if-is_past.true)
    (not_in c.args.item c.args.self.now.items (c.is_past.ensures.last c.if-is_past.true)))

pub invariant_of-self : goal.invariant_of-self
invariant_of-self c =
    let put : c.insert.new.self.items ≡ insert c.self.inside.items.items c.place_of-place.result c.args.item = search rules in
    let found : c.place_of-place.result ≡ place_of c.args.item.key c.self.inside.items.items = search rules in
    (search rules, search rules, falls_on _ _ c.args.item _ c.self.invariant.2 (offered _ _ _ c.args.item _ _ put found c.truncate.ensures.items))

pub returns-clause-items : goal.returns-clause-items
returns-clause-items c =
    let put : c.insert.new.self.items ≡ insert c.self.inside.items.items c.place_of-place.result c.args.item = search rules in
    let found : c.place_of-place.result ≡ place_of c.args.item.key c.self.inside.items.items = search rules in
    subst (λ w. c.truncate.new.self.items ≡ take w.room (ranked_in c.args.item w.items)) c.self.view_is (offered _ _ _ c.args.item _ _ put found c.truncate.ensures.items)
