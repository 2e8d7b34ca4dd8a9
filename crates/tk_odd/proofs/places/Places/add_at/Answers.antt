use Rattle.std.proofs.Common.{◌≡◌, ◌-◌, ℕ, ap, sym, ◌∙◌, slice_get, OnOk, subst, min, Option, Some}
use Rattle.std.specs.Option.{option_map, option_map_or}
use Rattle.std.proofs.lemmas.Option.{slice_get-map}
use Rattle.tk_core.specs.Lists.{capped}
use Rattle.tk_odd.specs.Charging.{charge_of}
use Rattle.tk_odd.specs.Diagnosis.{Places, with_member, with_one}
use Rattle.tk_odd.specs.Inner.{places_of, shown}
use Rattle.tk_odd.specs.Members.{Member as MemberView}
use Rattle.tk_odd.specs.declared.members.Member.{Member}
use Rattle.tk_odd.proofs.places.Places.add_at.Goals as goal

pub returns : goal.returns
returns c =
    let step = c.args.step.now in
    let es = c.args.members.now.entries in
    let old = places_of c.args.self.now in
    let id = c.in-Some.id.now in
    let m = c.in-Some.member.now in
    let shows : ℕ × Member → MemberView = λ e. (e.0, e.1.place.items, e.1.moved) in
    let one = with_one step.long c.args.free step.from step.to step.moved.now in
    let charge : c.min-charge.result ≡ capped (charge_of step.long (step.to - step.from) step.to step.moved.now m.moved) =
    c.min-charge.ensures
    ∙ (λ i. min (c.charge_of-charge.ensures.charge i) (c.from.ensures i))
    ∙ ap (λ time. capped (charge_of step.long time step.to step.moved.now m.moved)) c.saturating_sub-time.ensures in
    let at : slice_get (shown es) c.args.i ≡ Some (id, m.place.items, m.moved) =
    slice_get-map shows es c.args.i ∙ ap (option_map shows) (sym c.in-Some.ensures.entry) in
    let is : with_member step.from step.to c.min-charge.result c.stood_still-still.result old (id, c.deref.result.now, m.moved)
    ≡ option_map_or (λ x. one old x) (slice_get (shown es) c.args.i) old =
    (λ i. with_member step.from step.to (charge i) (c.stood_still-still.ensures i) old (id, c.deref.ensures.value i, m.moved))
    ∙ ap (λ (o : Option MemberView). option_map_or (λ x. one old x) o old) (sym at) in
    subst (λ (p : Places). OnOk c.add.result (places_of c.add.new.self ≡ p)) is c.add.ensures
