use Rattle.std.proofs.Common.{◌≡◌, ◌-◌, ◌∷◌, [], true, Some, None, ap, subst, ◌∙◌, sym, cond}
use Rattle.std.specs.Prelude.{slice_set, insert, IfSome, is_ok}
use Rattle.tk_stream.specs.Slots.{items_in, empty_from, slot_with, Stands}
use Rattle.tk_stream.specs.Tables.{staying}
use Rattle.tk_stream.proofs.SlotLemmas.{empty_listed, items_of-full, empty_of-full}
use Rattle.tk_stream.proofs.SlotIds.{held, held_some, unfound, staying_absent}
use Rattle.tk_stream.proofs.tables.table.Table.remove.Goals as goal

pub returns-in_default : goal.returns-in_default
returns-in_default g c =
    let id_of = g.T.Item.id_of in
    let none : slot_with id_of c.args.id c.self.inside.slots ≡ None = sym c.slot.ensures.slot ∙ c.in_default.is in
    sym (ap (staying id_of (c.args.id ∷ [])) (sym c.self.view_is) ∙ staying_absent id_of c.args.id (items_in c.self.inside.slots) (unfound id_of c.args.id c.self.inside.slots none) ∙ c.self.view_is)

pub place_of-place-requires-clause-there : goal.place_of-place-requires-clause-there
place_of-place-requires-clause-there g c = held_some g.T.Item.id_of c.args.id c.self.inside.slots c.in-Some.slot (sym c.slot.ensures.slot ∙ c.in-Some.is)

pub invariant_of-self : goal.invariant_of-self
invariant_of-self g c =
    let id_of = g.T.Item.id_of in
    let s = c.in-Some.slot in
    let p = c.place_of-place.result in
    let is : slot_with id_of c.args.id c.self.inside.slots ≡ Some s = sym c.slot.ensures.slot ∙ c.in-Some.is in
    let h = held id_of c.args.id c.self.inside.slots s is in
    let emptied : c.vacate.new.self ≡ slice_set c.self.inside.slots s None = subst (λ o. IfSome o (λ t. c.vacate.new.self ≡ slice_set c.self.inside.slots t None)) (c.vacate.ensures.slot ∙ is) c.vacate.ensures.emptied in
    let listed : is_ok c.insert.result ≡ true = sym c.is_ok-listed.ensures.value ∙ c.if-not-listed.false in
    c.insert.ensures.items
    ∙ ap (λ b. cond b (insert c.self.inside.empty.items (s - p) s) c.self.inside.empty.items) listed
    ∙ empty_listed c.self.inside.slots c.self.inside.empty.items p s c.self.invariant c.place_of-place.ensures.order
    (subst (λ es. Stands es s (s - p)) c.deref.ensures.value c.place_of-place.ensures.stands) h.0 h.1
    ∙ ap (empty_from 0) (sym emptied)

pub invariant_of-self-then-not-listed : goal.invariant_of-self-then-not-listed
invariant_of-self-then-not-listed g c = c.clear.ensures.items ∙ sym (ap (empty_from 0) c.close_up.ensures ∙ empty_of-full 0 (items_in c.vacate.new.self))

pub returns-then-not-listed : goal.returns-then-not-listed
returns-then-not-listed g c =
    ap items_in c.close_up.ensures ∙ items_of-full (items_in c.vacate.new.self) ∙ c.vacate.ensures.staying ∙ ap (staying g.T.Item.id_of (c.args.id ∷ [])) c.self.view_is
