use Rattle.std.proofs.Common.{◌≡◌, ◌≤◌, ◌-◌, subst, sym, arith}
use Rattle.tk_stream.specs.Slots.{AreRising, Stands}
use Rattle.tk_stream.proofs.SlotLemmas.{rising, stands_at, before_within}
use Rattle.tk_stream.proofs.tables.slots.Slots.place_of.Given.{Over}
use Rattle.tk_stream.proofs.tables.slots.Slots.place_of.Goals as goal

pub empty_before_slot-requires : goal.empty_before_slot-requires
empty_before_slot-requires g c = subst AreRising (sym c.requires.listed) (rising 0 c.args.self.now)

stands : (g : Over) (c : goal.After-empty_before_slot g) → Stands c.args.empty.now c.args.slot c.empty_before_slot.result
stands g c = stands_at c.args.self.now c.args.empty.now c.args.slot c.empty_before_slot.result c.requires.listed c.requires.there c.empty_before_slot.ensures.within c.empty_before_slot.ensures.before c.empty_before_slot.ensures.after

few : (g : Over) (c : goal.After-empty_before_slot g) → c.empty_before_slot.result ≤ c.args.slot
few g c =
    before_within 0 c.args.self.now c.empty_before_slot.result c.args.slot c.args.slot (omega arith) (subst (λ es. Stands es c.args.slot c.empty_before_slot.result) c.requires.listed (stands g c))

pub overflow_sub-result : goal.overflow_sub-result
overflow_sub-result g c = few g c

pub returns-clause-stands : goal.returns-clause-stands
returns-clause-stands g c =
    let l : c.empty_before_slot.result ≤ c.args.slot = few g c in
    let back : c.empty_before_slot.result ≡ c.args.slot - (c.args.slot - c.empty_before_slot.result) = omega arith in
    subst (Stands c.args.empty.now c.args.slot) back (stands g c)
