use Rattle.std.proofs.Common.{◌≡◌, ◌++◌, ◌∷◌, [], Some, None, nat_eq, map, subst, ap, ap₂, ◌∙◌, sym, cond}
use Rattle.std.specs.List.{IsDistinct, AllByRecursion}
use Rattle.tk_stream.specs.Slots.{items_in, slot_with}
use Rattle.tk_stream.proofs.SlotLemmas.{items_append}
use Rattle.tk_stream.proofs.SlotIds.{all-push, distinct-push, pushed, unfound}
use Rattle.tk_stream.proofs.tables.slots.Slots.push.Goals as goal

pub invariant_of-self-in-Ok : goal.invariant_of-self-in-Ok
invariant_of-self-in-Ok g c =
    let id_of = g.T.Item.id_of in
    let item = c.args.item in
    let xs = c.self.inside.slots.items in
    let new : c.push_reserved.new.self.items ≡ xs ++ Some item ∷ [] = c.push_reserved.ensures.items ∙ ap (λ ys. ys ++ Some item ∷ []) c.reserve.ensures.items in
    let items : items_in c.push_reserved.new.self.items ≡ items_in xs ++ item ∷ [] = ap items_in new ∙ items_append xs (Some item ∷ []) in
    let none : slot_with id_of (id_of item) xs ≡ None = ap (slot_with id_of (id_of item)) c.self.view_is ∙ c.requires in (
      λ q.
          c.in-Ok.ensures.updates.0 q
          ∙ ap (λ o. cond (nat_eq c.id.result q) (Some c.len-slot.result) o) (c.self.invariant.0 q)
          ∙ ap₂ (λ i n. cond (nat_eq i q) (Some n) (slot_with id_of q xs)) c.id.ensures (c.len-slot.ensures ∙ c.self.inside.slots.ok.0)
          ∙ pushed id_of item xs none q
          ∙ ap (slot_with id_of q) (sym new),
      subst (λ ys. IsDistinct nat_eq (map id_of ys)) (sym items) (distinct-push id_of (items_in xs) item c.self.invariant.1 (unfound id_of (id_of item) xs none)),
      subst (AllByRecursion g.T.Ranged.in_range) (sym items) (all-push id_of g.T.Ranged.in_range (items_in xs) item c.self.invariant.2 c.see.ensures),
    )
