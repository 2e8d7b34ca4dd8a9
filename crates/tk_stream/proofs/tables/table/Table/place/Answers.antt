use Rattle.std.proofs.Common.{◌≡◌, Some, None, ap, ◌∙◌, sym}
use Rattle.tk_stream.specs.Places.{place_with}
use Rattle.tk_stream.specs.Slots.{items_in, slot_with}
use Rattle.tk_stream.proofs.SlotIds.{unfound, no-place, held_some, placed_with}
use Rattle.tk_stream.proofs.SlotLemmas.{placed}
use Rattle.tk_stream.proofs.tables.table.Table.place.Goals as goal

pub returns-in_err-slot : goal.returns-in_err-slot
returns-in_err-slot g c =
    let none : slot_with g.T.Item.id_of c.args.id c.self.inside.slots ≡ None = sym c.slot.ensures.slot ∙ c.in_err-slot.was in
    c.from_residual.ensures
    ∙ sym (ap (place_with g.T.Item.id_of c.args.id) (sym c.self.view_is) ∙ no-place g.T.Item.id_of c.args.id (items_in c.self.inside.slots) (unfound g.T.Item.id_of c.args.id c.self.inside.slots none))

pub place_of-requires-clause-there : goal.place_of-requires-clause-there
place_of-requires-clause-there g c = held_some g.T.Item.id_of c.args.id c.self.inside.slots c.in_ok-slot.slot (sym c.slot.ensures.slot ∙ c.in_ok-slot.was)

pub returns : goal.returns
returns g c =
    let is : slot_with g.T.Item.id_of c.args.id c.self.inside.slots ≡ Some c.in_ok-slot.slot = sym c.slot.ensures.slot ∙ c.in_ok-slot.was in
    let at = placed c.self.inside.slots c.deref.result.now c.place_of.result c.in_ok-slot.slot (c.deref.ensures.value ∙ c.self.invariant) c.place_of.ensures.order c.place_of.ensures.stands in
    placed_with g.T.Item.id_of c.args.id c.self.inside.slots c.in_ok-slot.slot c.place_of.result is c.slot.ensures.distinct at ∙ ap (place_with g.T.Item.id_of c.args.id) c.self.view_is
