use Rattle.std.proofs.Common.{◌≡◌, ◌<◌, ◌+◌, suc, cond, length, Some, nat_eq, map, filter, rules, ap, subst, ◌∙◌, sym, arith, add-one}
use Rattle.std.specs.Prelude.{is_some, IsSome}
use Rattle.std.specs.List.{IsDistinct, AllByRecursion}
use Rattle.std.proofs.lemmas.Fn.{filter_same}
use Rattle.indexmap.specs.IndexMap.{get}
use Rattle.tk_stream.specs.Slots.{items_in, item_at, slot_with}
use Rattle.tk_stream.proofs.SlotLemmas.{full_kept, items_of-full, item_at_read}
use Rattle.tk_stream.proofs.SlotIds.{IsNoted, noted_none, noted_next, noted_past, noted_all, noted_there, noted_as}
use Rattle.tk_stream.proofs.tables.slots.Slots.close_up.Goals as goal
use Rattle.tk_stream.proofs.tables.slots.Slots.close_up.Goals.{in-Some, in_default}

pub loop-slot-init : goal.loop-slot-init
loop-slot-init g c =
    let old = c.self.inside.slots.items in
    let kept : c.retain.new.self.items ≡ filter is_some old = filter_same _ is_some _ (λ x b f call. search rules) _ _ c.retain.ensures.filtered in
    record {
      full = kept ∙ full_kept old ∙ ap (λ xs. map Some (items_in xs)) c.self.view_is;
      all = c.len-slot-end.ensures ∙ c.retain.new.self.ok.0;
      noted = noted_none g.T.Item.id_of c.args.self.now c.retain.new.self.items (get nat_eq c.self.inside.by_id) (λ q. c.self.invariant.0 q ∙ ap (slot_with g.T.Item.id_of q) c.self.view_is);
    }

pub index-requires : goal.index-requires
index-requires g c = let lt = c.loop-slot-test.true in let e = c.loop-slot.invariant.all in let l = c.loop-slot.self-inside.slots.ok.0 in omega (arith, lt, e, l)

pub renumber-requires : goal.renumber-requires
renumber-requires g c =
    let new = c.loop-slot.self-inside.slots.items in
    let lt : c.loop-slot.slot < length new = (let l = c.loop-slot-test.true in let e = c.loop-slot.invariant.all in omega (arith, l, e)) in
    let there : item_at new c.loop-slot.slot ≡ Some c.in-Some.item = item_at_read new c.loop-slot.slot c.index.result.now lt c.index.ensures ∙ c.in-Some.is in
    subst (λ id. IsSome (get nat_eq c.loop-slot.self-inside.by_id id)) (sym c.id.ensures)
    (noted_there g.T.Item.id_of c.args.self.now new c.loop-slot.slot c.loop-slot.slot c.in-Some.item (get nat_eq c.loop-slot.self-inside.by_id) there
    (ap items_in c.loop-slot.invariant.full ∙ items_of-full (items_in c.args.self.now)) c.loop-slot.invariant.noted)

pub loop-slot-preserved : goal.loop-slot-preserved
loop-slot-preserved g c =
    let id_of = g.T.Item.id_of in
    let old = c.args.self.now in
    let new = c.loop-slot.self-inside.slots.items in
    let i = c.loop-slot.slot in
    let lt : i < length new = (let l = c.loop-slot-test.true in let e = c.loop-slot.invariant.all in omega (arith, l, e)) in
    let stood : item_at new i ≡ c.index.result.now = item_at_read new i c.index.result.now lt c.index.ensures in
    let distinct : IsDistinct nat_eq (map id_of (items_in new)) =
    subst (λ xs. IsDistinct nat_eq (map id_of xs)) (ap items_in c.self.view_is ∙ sym (items_of-full (items_in old)) ∙ ap items_in (sym c.loop-slot.invariant.full)) c.self.invariant.1 in
    elim c.match-index.branch [
      | in-Some w ↦
          let slots : c.match-index.self-inside.slots.items ≡ new = ap (λ i. i.slots.items) w.self-inside-is in
          let noted : IsNoted id_of old new (suc i) (get nat_eq w.renumber.new.by_id) =
          noted_next id_of old new i w.in-Some.item (get nat_eq c.loop-slot.self-inside.by_id) (get nat_eq w.renumber.new.by_id) (stood ∙ w.in-Some.is) distinct
          (λ q. w.renumber.ensures q ∙ ap (λ id. cond (nat_eq id q) (Some i) (get nat_eq c.loop-slot.self-inside.by_id q)) w.id.ensures) c.loop-slot.invariant.noted in
          record {
            full = slots ∙ c.loop-slot.invariant.full;
            all = c.loop-slot.invariant.all ∙ ap length (sym slots);
            noted = noted_as id_of old new _ (suc i) (i + 1) _ _ noted (sym slots) (sym (add-one i)) (λ q. ap (λ s. get nat_eq s.by_id q) w.self-inside-is);
          }
      | in_default w ↦
          let slots : c.match-index.self-inside.slots.items ≡ new = ap (λ i. i.slots.items) w.self-inside-is in
          record {
            full = slots ∙ c.loop-slot.invariant.full;
            all = c.loop-slot.invariant.all ∙ ap length (sym slots);
            noted = noted_as id_of old new _ (suc i) (i + 1) _ _ (noted_past id_of old new i (get nat_eq c.loop-slot.self-inside.by_id) lt (stood ∙ w.in_default.is) c.loop-slot.invariant.noted) (sym slots) (sym (add-one i)) (λ q. ap (λ s. get nat_eq s.by_id q) w.self-inside-is);
          }
    ]

pub invariant_of-self : goal.invariant_of-self
invariant_of-self g c =
    let id_of = g.T.Item.id_of in
    let new = c.loop-slot.self-inside.slots.items in
    let items : items_in new ≡ items_in c.self.inside.slots.items = ap items_in c.loop-slot.invariant.full ∙ items_of-full (items_in c.args.self.now) ∙ ap items_in (sym c.self.view_is) in (
      noted_all id_of c.args.self.now new c.loop-slot.slot (get nat_eq c.loop-slot.self-inside.by_id) (let d = c.loop-slot-test.false in let e = c.loop-slot.invariant.all in omega (arith, d, e))
          (items ∙ ap items_in c.self.view_is) c.loop-slot.invariant.noted,
      subst (λ xs. IsDistinct nat_eq (map id_of xs)) (sym items) c.self.invariant.1,
      subst (AllByRecursion g.T.Ranged.in_range) (sym items) c.self.invariant.2,
    )

pub returns : goal.returns
returns g c = c.loop-slot.invariant.full
