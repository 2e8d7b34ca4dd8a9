use Rattle.std.proofs.Common.{◌≡◌, Some, None, ap, subst, ◌∙◌, sym}
use Rattle.std.specs.Prelude.{IsSome}
use Rattle.tk_stream.specs.Slots.{items_in, empty_from, slot_with}
use Rattle.tk_stream.specs.Tables.{item_with, put_item}
use Rattle.tk_stream.proofs.SlotLemmas.{empty_set, ok_then, on_ok_from, on_ok_none}
use Rattle.tk_stream.proofs.SlotIds.{held, unfound, replaced_items, put_last}
use Rattle.tk_stream.proofs.tables.table.Table.put.Goals as goal
use Rattle.tk_stream.proofs.tables.table.Table.put.Goals.{in-Ok, in-Err}

pub invariant_of-self : goal.invariant_of-self
invariant_of-self g c =
    let id_of = g.T.Item.id_of in
    let is : slot_with id_of (id_of c.args.item) c.self.inside.slots ≡ Some c.in-Some.slot = ap (λ id. slot_with id_of id c.self.inside.slots) (sym c.id.ensures) ∙ sym c.slot.ensures.slot ∙ c.in-Some.is in
    let h = held id_of (id_of c.args.item) c.self.inside.slots c.in-Some.slot is in
    c.self.invariant ∙ sym (ap (empty_from 0) c.replace.ensures ∙ empty_set h.0 c.args.item 0 c.self.inside.slots c.in-Some.slot h.1)

pub returns-in-Some-clause-ok : goal.returns-in-Some-clause-ok
returns-in-Some-clause-ok g c =
    let id_of = g.T.Item.id_of in
    let is : slot_with id_of (id_of c.args.item) c.self.inside.slots ≡ Some c.in-Some.slot = ap (λ id. slot_with id_of id c.self.inside.slots) (sym c.id.ensures) ∙ sym c.slot.ensures.slot ∙ c.in-Some.is in
    ap items_in c.replace.ensures ∙ replaced_items id_of c.args.item c.self.inside.slots c.in-Some.slot is ∙ ap (put_item id_of c.args.item) c.self.view_is

pub push-requires : goal.push-requires
push-requires g c =
    let id_of = g.T.Item.id_of in
    let none : slot_with id_of (id_of c.args.item) c.self.inside.slots ≡ None = ap (λ id. slot_with id_of id c.self.inside.slots) (sym c.id.ensures) ∙ sym c.slot.ensures.slot ∙ c.in_default.is in
    ap (item_with id_of (id_of c.args.item)) (sym c.self.view_is) ∙ unfound id_of (id_of c.args.item) c.self.inside.slots none

pub returns-clause-ok : goal.returns-clause-ok
returns-clause-ok g c =
    let id_of = g.T.Item.id_of in
    let none : slot_with id_of (id_of c.args.item) c.self.inside.slots ≡ None = ap (λ id. slot_with id_of id c.self.inside.slots) (sym c.id.ensures) ∙ sym c.slot.ensures.slot ∙ c.in_default.is in
    let absent : item_with id_of (id_of c.args.item) c.args.self.now ≡ None = ap (item_with id_of (id_of c.args.item)) (sym c.self.view_is) ∙ unfound id_of (id_of c.args.item) c.self.inside.slots none in
    elim c.match-push.branch [
      | in-Ok w ↦ on_ok_from c.match-push.result (ok_then c.push.result _ w.in-Ok.is c.push.ensures.ok ∙ sym (put_last id_of c.args.item c.args.self.now absent))
      | in-Err w ↦ on_ok_none c.match-push.result _ _ w.result-is
    ]

pub returns-clause-replaced : goal.returns-clause-replaced
returns-clause-replaced g c there =
    let id_of = g.T.Item.id_of in
    let none : slot_with id_of (id_of c.args.item) c.self.inside.slots ≡ None = ap (λ id. slot_with id_of id c.self.inside.slots) (sym c.id.ensures) ∙ sym c.slot.ensures.slot ∙ c.in_default.is in
    let absent : item_with id_of (id_of c.args.item) c.args.self.now ≡ None = ap (item_with id_of (id_of c.args.item)) (sym c.self.view_is) ∙ unfound id_of (id_of c.args.item) c.self.inside.slots none in
    let gone : IsSome {T = g.row.T.Denot} None = subst IsSome absent there in
    absurd (cc)
