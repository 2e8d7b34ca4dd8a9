use Rattle.std.proofs.Common.{◌<◌, ◌∷◌, [], length, take, get_or, subst, ap, ◌∙◌, sym}
use Rattle.tk_stream.specs.Slots.{items_in, empty_from}
use Rattle.tk_stream.specs.Tables.{staying}
use Rattle.tk_stream.proofs.GoneLemmas.{staying_all}
use Rattle.tk_stream.proofs.SlotIds.{staying_next}
use Rattle.tk_stream.proofs.SlotLemmas.{items_of-full, empty_of-full}
use Rattle.tk_stream.proofs.tables.table.Table.remove_all.Goals as goal

pub invariant_of-self : goal.invariant_of-self
invariant_of-self g c = c.clear.ensures.items ∙ sym (ap (empty_from 0) c.close_up.ensures ∙ empty_of-full 0 (items_in c.vacate_all.new.self))

pub returns-then-len : goal.returns-then-len
returns-then-len g c =
    ap items_in c.close_up.ensures ∙ items_of-full (items_in c.vacate_all.new.self) ∙ c.vacate_all.ensures ∙ ap (staying g.T.Item.id_of c.args.ids.now.keys) c.self.view_is

pub loop-id-init : goal.loop-id-init
loop-id-init g c = sym (staying_all g.T.Item.id_of c.args.self.now)

pub loop-id-preserved : goal.loop-id-preserved
loop-id-preserved g c =
    let id_of = g.T.Item.id_of in
    let i = c.loop-id.id-index in
    let keys = c.as_slice-id-items.ensures.keys in
    c.remove.ensures
    ∙ ap (staying id_of (get_or c.as_slice-id-items.result.now i 0 ∷ [])) c.loop-id.invariant
    ∙ ap (λ ids. staying id_of (get_or ids i 0 ∷ []) (staying id_of (take i c.args.ids.now.keys) c.args.self.now)) keys
    ∙ staying_next id_of i c.args.ids.now.keys c.args.self.now (subst (λ ids. i < length ids) keys c.loop-id-test.true)
