use Rattle.std.proofs.Common.{length, ap, ◌∙◌, sym}
use Rattle.tk_stream.specs.Slots.{item_at}
use Rattle.tk_stream.proofs.SlotLemmas.{item_at_read, item_at_past}
use Rattle.std.proofs.lemmas.Bool.{ltb-true}
use Rattle.tk_stream.proofs.tables.slots.Slots.at.Goals as goal

pub returns-in-Some : goal.returns-in-Some
returns-in-Some g c =
    let l = c.in-Some.ensures.lookup in
    let here = item_at_read c.deref.result.now c.args.slot c.in-Some.slot.now (ltb-true c.args.slot (length c.deref.result.now) (sym l.0)) l.1 in
    c.as_ref.ensures.value ∙ sym here ∙ ap (λ xs. item_at xs c.args.slot) (c.deref.ensures.value ∙ c.self.view_is)

pub returns-in-None : goal.returns-in-None
returns-in-None g c =
    let l = c.in-None.ensures.lookup in
    sym (item_at_past c.deref.result.now c.args.slot l.3) ∙ ap (λ xs. item_at xs c.args.slot) (c.deref.ensures.value ∙ c.self.view_is)
