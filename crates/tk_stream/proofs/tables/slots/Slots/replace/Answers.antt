use Rattle.std.proofs.Common.{◌≡◌, ◌<◌, Some, nat_eq, map, subst, ap, ◌∙◌, sym}
use Rattle.std.specs.Prelude.{slice_set}
use Rattle.std.specs.List.{IsDistinct, AllByRecursion}
use Rattle.tk_stream.specs.Slots.{items_in, slot_with}
use Rattle.tk_stream.proofs.SlotIds.{held_within, replaced_slots, replaced_items, distinct_put, all_put}
use Rattle.tk_stream.proofs.tables.slots.Slots.replace.Goals as goal

pub index_mut-requires : goal.index_mut-requires
index_mut-requires g c =
    subst (λ n. c.args.slot < n) (sym c.self.inside.slots.ok.0) (held_within g.T.Item.id_of (g.T.Item.id_of c.args.item) c.self.inside.slots.items c.args.slot (ap (slot_with g.T.Item.id_of (g.T.Item.id_of c.args.item)) c.self.view_is ∙ c.requires))

pub invariant_of-self : goal.invariant_of-self
invariant_of-self g c =
    let id_of = g.T.Item.id_of in
    let item = c.args.item in
    let xs = c.self.inside.slots.items in
    let is : slot_with id_of (id_of item) xs ≡ Some c.args.slot = ap (slot_with id_of (id_of item)) c.self.view_is ∙ c.requires in
    let items : items_in (slice_set xs c.args.slot (Some item)) ≡ _ = replaced_items id_of item xs c.args.slot is in (
      λ q. c.self.invariant.0 q ∙ sym (replaced_slots id_of item xs c.args.slot is q),
      subst (λ ys. IsDistinct nat_eq (map id_of ys)) (sym items) (distinct_put id_of item xs c.args.slot is c.self.invariant.1),
      subst (AllByRecursion g.T.Ranged.in_range) (sym items) (all_put id_of g.T.Ranged.in_range item (items_in xs) c.self.invariant.2 c.see.ensures),
    )

pub returns : goal.returns
returns g c = ap (λ xs. slice_set xs c.args.slot (Some c.args.item)) c.self.view_is
