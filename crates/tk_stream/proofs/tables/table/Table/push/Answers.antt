use Rattle.std.proofs.Common.{◌++◌, ◌∷◌, [], Some, ap, ◌∙◌, sym}
use Rattle.tk_stream.specs.Slots.{items_in, empty_from}
use Rattle.tk_stream.specs.Tables.{item_with}
use Rattle.tk_stream.proofs.SlotLemmas.{items_append, empty_push, either_way, on_ok}
use Rattle.tk_stream.proofs.SlotIds.{absent}
use Rattle.tk_stream.proofs.tables.table.Table.push.Goals as goal

pub push-requires : goal.push-requires
push-requires g c = absent g.T.Item.id_of (g.T.Item.id_of c.args.item) c.self.inside.slots (ap (item_with g.T.Item.id_of (g.T.Item.id_of c.args.item)) c.self.view_is ∙ c.requires)

pub invariant_of-self : goal.invariant_of-self
invariant_of-self g c =
    c.self.invariant
    ∙ either_way c.push.result c.push.ensures.ok c.push.ensures.err
    (λ pushed. sym (ap (empty_from 0) pushed ∙ empty_push 0 c.self.inside.slots c.args.item))
    (λ same. ap (empty_from 0) (sym same))

pub returns-clause-ok : goal.returns-clause-ok
returns-clause-ok g c =
    on_ok c.push.result c.push.ensures.ok (λ pushed. ap items_in pushed ∙ items_append c.self.inside.slots (Some c.args.item ∷ []) ∙ ap (λ xs. xs ++ c.args.item ∷ []) c.self.view_is)
