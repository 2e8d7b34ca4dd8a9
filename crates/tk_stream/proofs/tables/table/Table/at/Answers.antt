use Rattle.std.proofs.Common.{◌≡◌, length, slice_get, ap, ◌∙◌, arith}
use Rattle.tk_stream.specs.Slots.{items_in}
use Rattle.tk_stream.proofs.SlotLemmas.{placed}
use Rattle.tk_stream.proofs.tables.table.Table.at.Goals as goal

pub slot_at-slot-requires-clause-listed : goal.slot_at-slot-requires-clause-listed
slot_at-slot-requires-clause-listed g c = c.deref.ensures.value ∙ c.self.invariant

pub slot_at-slot-requires-clause-there : goal.slot_at-slot-requires-clause-there
slot_at-slot-requires-clause-there g c =
    let shown : length (items_in c.self.inside.slots) ≡ length c.args.self.now = ap length c.self.view_is in omega (arith, shown, c.if-i-len.false, c.len.ensures.count)

pub returns : goal.returns
returns g c =
    c.at.ensures
    ∙ placed c.self.inside.slots c.deref.result.now c.args.i c.slot_at-slot.result (c.deref.ensures.value ∙ c.self.invariant) c.slot_at-slot.ensures.order c.slot_at-slot.ensures.stands
    ∙ ap (λ xs. slice_get xs c.args.i) c.self.view_is
