use Rattle.std.proofs.Common.{◌≡◌, ◌++◌, ◌∷◌, [], Some, None, nat_eq, map, subst, ap, ap₂, ◌∙◌, cond}
use Rattle.std.specs.List.{IsDistinct, AllByRecursion}
use Rattle.tk_stream.specs.Slots.{items_in, slot_with}
use Rattle.tk_stream.proofs.SlotLemmas.{items_append}
use Rattle.tk_stream.proofs.SlotIds.{all-front, distinct-front, popped, popped_empty}
use Rattle.tk_stream.proofs.tables.slots.Slots.pop.Goals as goal

pub invariant_of-self-in-Some-last : goal.invariant_of-self-in-Some-last
invariant_of-self-in-Some-last g c =
    let id_of = g.T.Item.id_of in
    let item = c.in-Some-last.item in
    let old = c.self.inside.slots.items in
    let xs = c.pop.new.self.items in
    let was : old ≡ xs ++ Some item ∷ [] = c.in-Some.ensures.items ∙ ap (λ o. xs ++ o ∷ []) c.in-Some-last.is in
    let items : items_in old ≡ items_in xs ++ item ∷ [] = ap items_in was ∙ items_append xs (Some item ∷ []) in
    let distinct : IsDistinct nat_eq (map id_of (items_in xs ++ item ∷ [])) = subst (λ ys. IsDistinct nat_eq (map id_of ys)) items c.self.invariant.1 in (
      λ q.
          c.swap_remove.ensures.updates.0 q
          ∙ ap₂ (λ i o. cond (nat_eq i q) None o) c.id.ensures (c.self.invariant.0 q ∙ ap (slot_with id_of q) was)
          ∙ popped id_of item xs distinct q,
      distinct-front id_of (items_in xs) (item ∷ []) distinct,
      all-front id_of g.T.Ranged.in_range (items_in xs) (item ∷ []) (subst (AllByRecursion g.T.Ranged.in_range) items c.self.invariant.2),
    )

pub invariant_of-self-in_default-last : goal.invariant_of-self-in_default-last
invariant_of-self-in_default-last g c =
    let id_of = g.T.Item.id_of in
    let old = c.self.inside.slots.items in
    let xs = c.pop.new.self.items in
    let was : old ≡ xs ++ None ∷ [] = c.in-Some.ensures.items ∙ ap (λ o. xs ++ o ∷ []) c.in_default-last.is in
    let items : items_in old ≡ items_in xs ++ [] = ap items_in was ∙ items_append xs (None ∷ []) in (
      λ q. c.self.invariant.0 q ∙ ap (slot_with id_of q) was ∙ popped_empty id_of xs q,
      distinct-front id_of (items_in xs) [] (subst (λ ys. IsDistinct nat_eq (map id_of ys)) items c.self.invariant.1),
      all-front id_of g.T.Ranged.in_range (items_in xs) [] (subst (AllByRecursion g.T.Ranged.in_range) items c.self.invariant.2),
    )
