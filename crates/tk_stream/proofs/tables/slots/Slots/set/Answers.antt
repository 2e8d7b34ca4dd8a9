use Rattle.std.proofs.Common.{◌≡◌, ◌<◌, length, Some, nat_eq, map, ap, subst, ◌∙◌, sym}
use Rattle.std.specs.Prelude.{slice_set, option_map}
use Rattle.std.specs.HashMap.{get}
use Rattle.std.specs.List.{IsDistinct, AllByRecursion}
use Rattle.std.proofs.lemmas.Option.{same_Some}
use Rattle.tk_stream.specs.Slots.{items_in, item_at, slot_with}
use Rattle.tk_stream.specs.Tables.{changed_at}
use Rattle.tk_stream.proofs.SlotLemmas.{item_at_read}
use Rattle.tk_stream.proofs.SlotIds.{changed_set, changed_none, changed_slots, changed_ids, all_changed}
use Rattle.tk_stream.proofs.tables.slots.Slots.set.Given.{Over}
use Rattle.tk_stream.proofs.tables.slots.Slots.set.Goals as goal
use Rattle.tk_stream.proofs.tables.slots.Slots.set.Goals.{in-Some, in_default}

-- what stood in the slot
stood : (g : Over) (c : goal.Joined-index_mut g) → item_at c.self.inside.slots.items c.args.slot ≡ c.index_mut.result.now
stood g c = item_at_read c.self.inside.slots.items c.args.slot c.index_mut.result.now (subst (λ xs. c.args.slot < length xs) (sym c.self.view_is) c.requires) c.index_mut.ensures.value

items_are : (g : Over) (c : goal.Joined-index_mut g) → c.match-index_mut.self-inside.slots.items ≡ changed_at (option_map (λ x. g.T.Item.with_row x c.args.row)) c.self.inside.slots.items c.args.slot
items_are g c = elim c.match-index_mut.branch [
  | in-Some w ↦
      ap (λ i. i.slots.items) w.self-inside-is
      ∙ ap (λ x. slice_set c.self.inside.slots.items c.args.slot (Some x)) w.set_row.ensures
      ∙ changed_set g.T.Item.id_of (λ x. g.T.Item.with_row x c.args.row) c.self.inside.slots.items c.args.slot w.in-Some.item (stood g c ∙ w.in-Some.is)
  | in_default w ↦
      ap (λ i. i.slots.items) w.self-inside-is
      ∙ ap (slice_set c.self.inside.slots.items c.args.slot) w.in_default.is
      ∙ changed_none g.T.Item.id_of (λ x. g.T.Item.with_row x c.args.row) c.self.inside.slots.items c.args.slot (stood g c ∙ w.in_default.is)
]

index_is : (g : Over) (c : goal.Joined-index_mut g) → c.match-index_mut.self-inside.by_id ≡ c.self.inside.by_id
index_is g c = elim c.match-index_mut.branch [ in-Some w ↦ ap (λ i. i.by_id) w.self-inside-is | in_default w ↦ ap (λ i. i.by_id) w.self-inside-is ]

ranges_stay : (g : Over) (c : goal.Joined-index_mut g) → AllByRecursion g.T.Ranged.in_range (items_in (changed_at (option_map (λ x. g.T.Item.with_row x c.args.row)) c.self.inside.slots.items c.args.slot))
ranges_stay g c =
    all_changed g.T.Item.id_of g.T.Ranged.in_range (λ x. g.T.Item.with_row x c.args.row) c.self.inside.slots.items c.args.slot c.self.invariant.2 (λ x there. elim c.match-index_mut.branch [
      | in-Some w ↦
          subst g.T.Ranged.in_range (w.set_row.ensures ∙ ap (λ y. g.T.Item.with_row y c.args.row) (same_Some w.in-Some.item x (sym w.in-Some.is ∙ sym (stood g c) ∙ there))) w.see.ensures
      | in_default w ↦ absurd (w.in_default.not-Some x (sym (stood g c) ∙ there))
    ])

pub returns : goal.returns
returns g c = items_are g c ∙ ap (λ xs. changed_at (option_map (λ x. g.T.Item.with_row x c.args.row)) xs c.args.slot) c.self.view_is

pub invariant_of-self : goal.invariant_of-self
invariant_of-self g c =
    let id_of = g.T.Item.id_of in
    let f = λ (x : _). g.T.Item.with_row x c.args.row in
    let keeps = λ (x : _). g.met.T.Item.keeps_id x c.args.row in
    let xs = c.self.inside.slots.items in (
      λ q.
          ap (λ m. get nat_eq m q) (index_is g c) ∙ c.self.invariant.0 q
          ∙ sym (changed_slots id_of f keeps xs c.args.slot q) ∙ ap (slot_with id_of q) (sym (items_are g c)),
      subst (λ ys. IsDistinct nat_eq (map id_of (items_in ys))) (sym (items_are g c)) (subst (IsDistinct nat_eq) (sym (changed_ids id_of f keeps xs c.args.slot)) c.self.invariant.1),
      subst (λ ys. AllByRecursion g.T.Ranged.in_range (items_in ys)) (sym (items_are g c)) (ranges_stay g c),
    )
