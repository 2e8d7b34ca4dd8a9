use Rattle.std.proofs.Common.{◌≡◌, ◌<◌, ◌≤◌, ◌+◌, length, ap, subst, sym, arith}
use Rattle.tk_stream.specs.Slots.{items_in, empty_from, AreRising}
use Rattle.tk_stream.proofs.SlotLemmas.{rising, counted}
use Rattle.tk_stream.proofs.tables.slots.Slots.slot_at.Given.{Over}
use Rattle.tk_stream.proofs.tables.slots.Slots.slot_at.Goals as goal

pub empty_before_place-requires : goal.empty_before_place-requires
empty_before_place-requires g c = subst AreRising (sym c.requires.listed) (rising 0 c.args.self.now)

below-all : (g : Over) (c : goal.After-empty_before_place g) → c.args.place + c.empty_before_place.result < length c.args.self.now
below-all g c =
    let all : length (items_in c.args.self.now) + length (empty_from 0 c.args.self.now) ≡ length c.args.self.now = counted 0 c.args.self.now in
    let listed : length c.args.empty.now ≡ length (empty_from 0 c.args.self.now) = ap length c.requires.listed in
    let few : c.empty_before_place.result ≤ length c.args.empty.now = c.empty_before_place.ensures.within in
    let there : c.args.place < length (items_in c.args.self.now) = c.requires.there in
    omega (arith, all, listed, few, there)

pub overflow_add-result : goal.overflow_add-result
overflow_add-result g c =
    let same : length c.self.inside.slots.items ≡ length c.args.self.now = ap length c.self.view_is in
    omega (arith, below-all g c, same, c.self.inside.slots.small, c.self.inside.slots.ok.0, c.self.inside.slots.ok.1)

pub returns-clause-within : goal.returns-clause-within
returns-clause-within g c = below-all g c
