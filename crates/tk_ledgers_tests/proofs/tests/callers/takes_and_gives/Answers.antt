use Rattle.std.proofs.Common.{refl, sym, subst, inl}
use Rattle.tk_core.specs.declared.attrs.AttrOp.TheVariants.{Add}
use Rattle.tk_ids.specs.declared.attr.AttrValue.TheVariants as values
use Rattle.tk_core.specs.declared.reply.Reply.{Reply}
use Rattle.tk_core.specs.declared.resource.row.ResourceRow.{ResourceRow}
use Rattle.tk_core.specs.declared.resource.call.ResourceCall.TheVariants.{Attr, Enlist}
use Rattle.tk_core.specs.ResourceMeaning.{resource_meaning}
use Rattle.tk_core.specs.Laws.ResourceLaws.{numbers_are_new}
use Rattle.tk_cell.specs.Calls.{Calls}
use Rattle.tk_ledgers.specs.Callers.{HoldsOnly}
use Rattle.tk_ledgers.specs.Resources.{ResourceSight}
use Rattle.tk_ledgers.proofs.CallersLemmas.{calls_keep_only}
use Rattle.tk_ledgers_tests.proofs.HandUses.{back_live, answered}
use Rattle.tk_ledgers_tests.proofs.tests.callers.takes_and_gives.Goals as goal

pub take_back-requires-clause-users : goal.take_back-requires-clause-users
take_back-requires-clause-users g c =
    let e = answered (λ (r : Reply ResourceRow). Calls resource_meaning c.in-Ok.handle.token.view (Attr 0 (Add (values.U64 1))) r c.add-given.new.self.token.view) c.add-given.result c.add-given.ensures.ok c.add-given.ensures.err in
    subst (λ (h : ResourceSight). HoldsOnly resource_meaning Enlist h.token.view) (sym c.retire.ensures)
    (calls_keep_only resource_meaning numbers_are_new c.in-Ok.handle.token.view c.add-given.new.self.token.view (Attr 0 (Add (values.U64 1))) Enlist e.0 e.2 (inl e.1) c.in-Ok.ensures.user)

pub change-refused-requires : goal.change-refused-requires
change-refused-requires g c =
    let e = answered (λ (r : Reply ResourceRow). Calls resource_meaning c.in-Ok.handle.token.view (Attr 0 (Add (values.U64 1))) r c.add-given.new.self.token.view) c.add-given.result c.add-given.ensures.ok c.add-given.ensures.err in
    let calls = subst (λ (h : ResourceSight). Calls resource_meaning c.in-Ok.handle.token.view (Attr 0 (Add (values.U64 1))) e.0 h.token.view) (sym c.retire.ensures) e.2 in
    back_live resource_meaning c.change-taken.new.self.token c.part.new.self.token c.in-Ok.handle.token c.retire.result.token c.take_back.new.self.token c.args.user (Attr 0 (Add (values.U64 1))) e.0 c.in-Ok.ensures.ok calls refl c.take_back.ensures.back
