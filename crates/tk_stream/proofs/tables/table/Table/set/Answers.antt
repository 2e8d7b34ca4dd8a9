use Rattle.std.proofs.Common.{◌<◌, length, ap, subst, ◌∙◌, sym}
use Rattle.tk_stream.specs.Slots.{items_in, empty_from}
use Rattle.tk_stream.specs.Tables.{changed_at}
use Rattle.tk_stream.proofs.SlotLemmas.{changed_there, empty_changed}
use Rattle.tk_stream.proofs.tables.table.Table.set.Goals as goal

pub slot_at-slot-requires-clause-listed : goal.slot_at-slot-requires-clause-listed
slot_at-slot-requires-clause-listed g c = c.deref.ensures.value ∙ c.self.invariant

pub slot_at-slot-requires-clause-there : goal.slot_at-slot-requires-clause-there
slot_at-slot-requires-clause-there g c = subst (λ xs. c.args.i < length xs) (sym c.self.view_is) c.requires

pub invariant_of-self : goal.invariant_of-self
invariant_of-self g c =
    c.self.invariant ∙ sym (ap (empty_from 0) c.set.ensures ∙ empty_changed (λ x. g.T.Item.with_row x c.args.row) 0 c.self.inside.slots c.slot_at-slot.result)

pub returns : goal.returns
returns g c =
    ap items_in c.set.ensures
    ∙ changed_there c.self.inside.slots c.deref.result.now c.args.i c.slot_at-slot.result (c.deref.ensures.value ∙ c.self.invariant) c.slot_at-slot.ensures.order c.slot_at-slot.ensures.stands (λ x. g.T.Item.with_row x c.args.row)
    ∙ ap (λ xs. changed_at (λ x. g.T.Item.with_row x c.args.row) xs c.args.i) c.self.view_is
