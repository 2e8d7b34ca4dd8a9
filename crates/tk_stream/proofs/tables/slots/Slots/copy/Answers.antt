use Rattle.std.proofs.Common.{◌≡◌, nat_eq, map, ap, subst, ◌∙◌, sym}
use Rattle.std.specs.List.{IsDistinct, AllByRecursion}
use Rattle.std.specs.Map.{lookup}
use Rattle.tk_stream.specs.Slots.{items_in, slot_with}
use Rattle.tk_stream.proofs.SlotLemmas.{same_slots, same_options, same_entries}
use Rattle.tk_stream.proofs.tables.slots.Slots.copy.Given.{Over}
use Rattle.tk_stream.proofs.tables.slots.Slots.copy.Goals as goal

slots_are : (g : Over) (c : goal.In_ok-by_id g) → c.in_ok-slots.slots.items ≡ c.self.inside.slots.items
slots_are g c =
    same_slots _ (same_options _ (λ x y r. g.met.T.Item.copies x y r) (λ x r. r) (λ y r. r)) c.self.inside.slots.items c.in_ok-slots.slots.items c.in_ok-slots.ensures.cases.0

pub invariant_of-result : goal.invariant_of-result
invariant_of-result g c =
    let entries = same_entries c.self.inside.by_id.entries c.in_ok-by_id.by_id.entries c.in_ok-by_id.ensures.cases in (
      λ q. ap (lookup (nat_eq q)) entries ∙ c.self.invariant.0 q ∙ ap (slot_with g.T.Item.id_of q) (sym (slots_are g c)),
      subst (λ xs. IsDistinct nat_eq (map g.T.Item.id_of (items_in xs))) (sym (slots_are g c)) c.self.invariant.1,
      subst (λ xs. AllByRecursion g.T.Ranged.in_range (items_in xs)) (sym (slots_are g c)) c.self.invariant.2,
    )

pub returns : goal.returns
returns g c = slots_are g c ∙ c.self.view_is
