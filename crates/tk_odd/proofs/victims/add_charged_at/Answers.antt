use Rattle.std.proofs.Common.{◌≡◌, ◌-◌, ℕ, List, ap, sym, ◌∙◌, arith, slice_get, OnOk, subst, Option, Some, Bool, true, nat_le}
use Rattle.std.specs.Prelude.{fold, if◌then◌else◌}
use Rattle.std.specs.Option.{option_map, option_map_or}
use Rattle.std.proofs.lemmas.Bool.{le-leb}
use Rattle.std.proofs.lemmas.Option.{slice_get-map}
use Rattle.tk_odd.specs.Charging.{charge_of}
use Rattle.tk_odd.specs.Inner.{shown}
use Rattle.tk_odd.specs.Members.{Member as MemberView, looked_at, moved_of}
use Rattle.tk_odd.specs.Victims.{Pairs, with_charged, with_victim}
use Rattle.tk_odd.specs.declared.members.Member.{Member}
use Rattle.tk_odd.specs.declared.moved.Moved.{Moved}
use Rattle.tk_odd.proofs.victims.add_charged_at.Goals as goal

at_least_one : (n : ℕ) → (n ≡ 0 → ⊥) → nat_le 1 n ≡ true
at_least_one n some = le-leb 1 n (omega (arith, some))

pub returns-then-charge-eq0 : goal.returns-then-charge-eq0
returns-then-charge-eq0 c =
    let step = c.args.step.now in
    let es = c.args.members.now.entries in
    let xs = shown es in
    let old = c.args.pairs.now in
    let id = c.in-Some.id.now in
    let m = c.in-Some.member.now in
    let shows : ℕ × Member → MemberView = λ e. (e.0, e.1.place.items, e.1.moved) in
    let one = with_charged step.long (step.to - step.from) step.to xs in
    let at : slice_get xs c.args.i ≡ Some (id, m.place.items, m.moved) =
    slice_get-map shows es c.args.i ∙ ap (option_map shows) (sym c.in-Some.ensures.entry) in
    let charge : c.charge_of-charge.result ≡ charge_of step.long (step.to - step.from) step.to step.moved.now m.moved =
    c.charge_of-charge.ensures.charge ∙ ap (λ time. charge_of step.long time step.to step.moved.now m.moved) c.saturating_sub-time.ensures in
    let none : charge_of step.long (step.to - step.from) step.to (moved_of xs) m.moved ≡ 0 =
    ap (λ (ms : List Moved). charge_of step.long (step.to - step.from) step.to ms m.moved) (sym c.requires.moved) ∙ sym charge ∙ c.if-charge-eq0.true in
    sym (ap (λ (x : Option MemberView). option_map_or (λ y. one old y) x old) at
    ∙ ap (λ (n : ℕ). if nat_le 1 n then fold (with_victim step.to (moved_of xs) (id, m.place.items, m.moved)) old (looked_at xs) else old) none)

pub returns : goal.returns
returns c =
    let step = c.args.step.now in
    let es = c.args.members.now.entries in
    let xs = shown es in
    let old = c.args.pairs.now in
    let id = c.in-Some.id.now in
    let m = c.in-Some.member.now in
    let shows : ℕ × Member → MemberView = λ e. (e.0, e.1.place.items, e.1.moved) in
    let one = with_charged step.long (step.to - step.from) step.to xs in
    let at : slice_get xs c.args.i ≡ Some (id, m.place.items, m.moved) =
    slice_get-map shows es c.args.i ∙ ap (option_map shows) (sym c.in-Some.ensures.entry) in
    let charge : c.charge_of-charge.result ≡ charge_of step.long (step.to - step.from) step.to step.moved.now m.moved =
    c.charge_of-charge.ensures.charge ∙ ap (λ time. charge_of step.long time step.to step.moved.now m.moved) c.saturating_sub-time.ensures in
    let some : nat_le 1 (charge_of step.long (step.to - step.from) step.to (moved_of xs) m.moved) ≡ true =
    ap (λ (n : ℕ). nat_le 1 n) (ap (λ (ms : List Moved). charge_of step.long (step.to - step.from) step.to ms m.moved) (sym c.requires.moved) ∙ sym charge)
    ∙ at_least_one c.charge_of-charge.result c.if-charge-eq0.false in
    let is : fold (with_victim step.to step.moved.now (id, m.place.items, m.moved)) old (looked_at xs) ≡ option_map_or (λ y. one old y) (slice_get xs c.args.i) old =
    ap (λ (ms : List Moved). fold (with_victim step.to ms (id, m.place.items, m.moved)) old (looked_at xs)) c.requires.moved
    ∙ sym (ap (λ (b : Bool). if b then fold (with_victim step.to (moved_of xs) (id, m.place.items, m.moved)) old (looked_at xs) else old) some)
    ∙ ap (λ (x : Option MemberView). option_map_or (λ y. one old y) x old) (sym at) in
    subst (λ (p : Pairs). OnOk c.add_victims.result (c.add_victims.new.pairs ≡ p)) is c.add_victims.ensures
