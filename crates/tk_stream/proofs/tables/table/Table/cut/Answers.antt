use Rattle.std.proofs.Common.{◌≡◌, ◌-◌, length, take, ap, subst, ◌∙◌, sym, arith}
use Rattle.tk_stream.specs.Slots.{items_in, empty_from, Stands}
use Rattle.tk_stream.proofs.SlotLemmas.{items_kept, empty_kept}
use Rattle.tk_stream.proofs.tables.table.Table.cut.Goals as goal

pub slot_at-slot-requires-clause-listed : goal.slot_at-slot-requires-clause-listed
slot_at-slot-requires-clause-listed g c = c.deref.ensures.value ∙ c.self.invariant

pub slot_at-slot-requires-clause-there : goal.slot_at-slot-requires-clause-there
slot_at-slot-requires-clause-there g c =
    let shown : length (items_in c.self.inside.slots) ≡ length c.args.self.now = ap length c.self.view_is in omega (arith, shown, c.if-count-len.false, c.len.ensures.count)

pub invariant_of-self : goal.invariant_of-self
invariant_of-self g c =
    c.truncate-2.ensures.items
    ∙ empty_kept c.self.inside.slots c.self.inside.empty.items c.args.count c.slot_at-slot.result c.self.invariant c.slot_at-slot.ensures.order
    (subst (λ es. Stands es c.slot_at-slot.result (c.slot_at-slot.result - c.args.count)) c.deref.ensures.value c.slot_at-slot.ensures.stands)
    ∙ ap (empty_from 0) (sym c.truncate.ensures)

pub returns : goal.returns
returns g c =
    ap items_in c.truncate.ensures
    ∙ items_kept c.self.inside.slots c.deref.result.now c.args.count c.slot_at-slot.result (c.deref.ensures.value ∙ c.self.invariant) c.slot_at-slot.ensures.order c.slot_at-slot.ensures.stands
    ∙ ap (take c.args.count) c.self.view_is
