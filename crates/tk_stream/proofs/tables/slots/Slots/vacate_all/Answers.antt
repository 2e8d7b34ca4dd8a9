use Rattle.std.proofs.Common.{◌<◌, ◌∷◌, [], length, take, get_or, subst, ap, ◌∙◌, sym, arith}
use Rattle.std.proofs.lemmas.List.{take_all}
use Rattle.tk_stream.specs.Slots.{items_in}
use Rattle.tk_stream.specs.Tables.{staying}
use Rattle.tk_stream.proofs.GoneLemmas.{staying_all}
use Rattle.tk_stream.proofs.SlotIds.{staying_next}
use Rattle.tk_stream.proofs.tables.slots.Slots.vacate_all.Goals as goal

pub loop-id-init : goal.loop-id-init
loop-id-init g c = sym (staying_all g.T.Item.id_of (items_in c.args.self.now))

pub loop-id-preserved : goal.loop-id-preserved
loop-id-preserved g c =
    let id_of = g.T.Item.id_of in
    let i = c.loop-id.id-index in
    let keys = c.as_slice-id-items.ensures.keys in
    c.vacate.ensures.staying
    ∙ ap (staying id_of (get_or c.as_slice-id-items.result.now i 0 ∷ [])) c.loop-id.invariant
    ∙ ap (λ ids. staying id_of (get_or ids i 0 ∷ []) (staying id_of (take i c.args.ids.now.keys) (items_in c.args.self.now))) keys
    ∙ staying_next id_of i c.args.ids.now.keys (items_in c.args.self.now) (subst (λ ids. i < length ids) keys c.loop-id-test.true)

pub returns : goal.returns
returns g c =
    c.loop-id.invariant
    ∙ ap (λ ids. staying g.T.Item.id_of ids (items_in c.args.self.now))
    (take_all c.loop-id.id-index c.args.ids.now.keys (let l = c.loop-id-test.false in let e = ap length c.as_slice-id-items.ensures.keys in omega (arith, l, e)))
