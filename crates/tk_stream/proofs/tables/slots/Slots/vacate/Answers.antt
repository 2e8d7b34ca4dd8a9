use Rattle.std.proofs.Common.{◌≡◌, ◌<◌, ◌∷◌, [], Some, None, nat_eq, map, subst, ap, ◌∙◌, sym, cond}
use Rattle.std.specs.Prelude.{slice_set}
use Rattle.std.specs.List.{IsDistinct, AllByRecursion}
use Rattle.tk_stream.specs.Slots.{items_in, slot_with}
use Rattle.tk_stream.specs.Tables.{staying}
use Rattle.tk_stream.proofs.GoneLemmas.{once_kept}
use Rattle.tk_stream.proofs.SlotIds.{held_within, vacated, left, unfound, staying_absent, all-kept}
use Rattle.tk_stream.proofs.tables.slots.Slots.vacate.Goals as goal

pub returns-in_default-clause-staying : goal.returns-in_default-clause-staying
returns-in_default-clause-staying g c =
    let id_of = g.T.Item.id_of in
    let xs = c.self.inside.slots.items in
    let none : slot_with id_of c.args.id xs ≡ None = sym (c.self.invariant.0 c.args.id) ∙ sym c.swap_remove.ensures.value ∙ c.in_default.is in
    sym (staying_absent id_of c.args.id (items_in xs) (unfound id_of c.args.id xs none)) ∙ ap (λ ys. staying id_of (c.args.id ∷ []) (items_in ys)) c.self.view_is

pub index_mut-requires : goal.index_mut-requires
index_mut-requires g c =
    let is : slot_with g.T.Item.id_of c.args.id c.self.inside.slots.items ≡ Some c.in-Some.slot = sym (c.self.invariant.0 c.args.id) ∙ sym c.swap_remove.ensures.value ∙ c.in-Some.is in
    subst (λ n. c.in-Some.slot < n) (sym c.self.inside.slots.ok.0) (held_within g.T.Item.id_of c.args.id c.self.inside.slots.items c.in-Some.slot is)

pub invariant_of-self-2 : goal.invariant_of-self-2
invariant_of-self-2 g c =
    let id_of = g.T.Item.id_of in
    let xs = c.self.inside.slots.items in
    let is : slot_with id_of c.args.id xs ≡ Some c.in-Some.slot = sym (c.self.invariant.0 c.args.id) ∙ sym c.swap_remove.ensures.value ∙ c.in-Some.is in
    let items : items_in (slice_set xs c.in-Some.slot None) ≡ staying id_of (c.args.id ∷ []) (items_in xs) = left id_of c.args.id xs c.in-Some.slot is c.self.invariant.1 in (
      λ q. c.swap_remove.ensures.updates.0 q ∙ ap (cond (nat_eq c.args.id q) None) (c.self.invariant.0 q) ∙ vacated id_of c.args.id xs c.in-Some.slot is c.self.invariant.1 q,
      subst (λ ys. IsDistinct nat_eq (map id_of ys)) (sym items) (once_kept id_of _ (items_in xs) c.self.invariant.1),
      subst (AllByRecursion g.T.Ranged.in_range) (sym items) (all-kept id_of g.T.Ranged.in_range _ (items_in xs) c.self.invariant.2),
    )

pub returns-clause-staying : goal.returns-clause-staying
returns-clause-staying g c =
    let id_of = g.T.Item.id_of in
    let xs = c.self.inside.slots.items in
    let is : slot_with id_of c.args.id xs ≡ Some c.in-Some.slot = sym (c.self.invariant.0 c.args.id) ∙ sym c.swap_remove.ensures.value ∙ c.in-Some.is in
    left id_of c.args.id xs c.in-Some.slot is c.self.invariant.1 ∙ ap (λ ys. staying id_of (c.args.id ∷ []) (items_in ys)) c.self.view_is
