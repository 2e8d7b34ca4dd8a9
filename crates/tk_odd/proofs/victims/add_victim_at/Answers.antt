use Rattle.std.proofs.Common.{◌≡◌, ℕ, ap, sym, ◌∙◌, slice_get, OnOk, subst, Option, Some}
use Rattle.std.specs.Option.{option_map, option_map_or}
use Rattle.std.proofs.lemmas.Option.{slice_get-map}
use Rattle.tk_odd.specs.Inner.{shown}
use Rattle.tk_odd.specs.Members.{Member as MemberView}
use Rattle.tk_odd.specs.Victims.{Pairs, with_victim}
use Rattle.tk_odd.specs.declared.members.Member.{Member}
use Rattle.tk_odd.proofs.victims.add_victim_at.Goals as goal

pub returns : goal.returns
returns c =
    let step = c.args.step.now in
    let es = c.args.members.now.entries in
    let old = c.args.pairs.now in
    let m = c.args.member.now in
    let id = c.in-Some.field-0-0.now in
    let o = c.in-Some.other.now in
    let shows : ℕ × Member → MemberView = λ e. (e.0, e.1.place.items, e.1.moved) in
    let one = with_victim step.to step.moved.now (c.args.id, m.place.items, m.moved) in
    let at : slice_get (shown es) c.args.i ≡ Some (id, o.place.items, o.moved) =
    slice_get-map shows es c.args.i ∙ ap (option_map shows) (sym c.in-Some.ensures.entry) in
    let is : with_victim step.to step.moved.now (c.args.id, c.deref.result.now, m.moved) old (id, c.deref-2.result.now, o.moved)
    ≡ option_map_or (λ y. one old y) (slice_get (shown es) c.args.i) old =
    (λ i. with_victim step.to step.moved.now (c.args.id, c.deref.ensures.value i, m.moved) old (id, c.deref-2.ensures.value i, o.moved))
    ∙ ap (λ (x : Option MemberView). option_map_or (λ y. one old y) x old) (sym at) in
    subst (λ (p : Pairs). OnOk c.add_victim.result (c.add_victim.new.pairs ≡ p)) is (c.add_victim.ensures c.args.id id)
