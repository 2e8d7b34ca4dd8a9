use Rattle.std.proofs.Common.{◌≡◌, Some, None, ap, ◌∙◌, sym}
use Rattle.std.specs.Prelude.{option_map}
use Rattle.tk_stream.specs.Slots.{slot_with}
use Rattle.tk_stream.specs.Tables.{item_with}
use Rattle.tk_stream.proofs.SlotIds.{found, unfound}
use Rattle.tk_stream.proofs.tables.table.Table.with_id.Goals as goal

pub returns-in_err-slot : goal.returns-in_err-slot
returns-in_err-slot g c =
    let none : slot_with g.T.Item.id_of c.args.id c.self.inside.slots ≡ None = sym c.slot.ensures.slot ∙ c.in_err-slot.was in
    ap (option_map (λ t. t.now)) c.from_residual.ensures ∙ sym (ap (item_with g.T.Item.id_of c.args.id) (sym c.self.view_is) ∙ unfound g.T.Item.id_of c.args.id c.self.inside.slots none)

pub returns : goal.returns
returns g c =
    let is : slot_with g.T.Item.id_of c.args.id c.self.inside.slots ≡ Some c.in_ok-slot.slot = sym c.slot.ensures.slot ∙ c.in_ok-slot.was in
    c.at.ensures ∙ found g.T.Item.id_of c.args.id c.self.inside.slots c.in_ok-slot.slot is ∙ ap (item_with g.T.Item.id_of c.args.id) c.self.view_is
