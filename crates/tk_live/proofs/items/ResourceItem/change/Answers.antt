use Rattle.std.proofs.Common.{refl, sym, ◌∙◌}
use Rattle.tk_core.specs.declared.reply.Reply.TheVariants.{Done}
use Rattle.tk_core.specs.declared.resource.call.ResourceCall.TheVariants.{Attr}
use Rattle.tk_live.specs.Pasts.{resource_values}
use Rattle.tk_live.specs.declared.items.ResourceItem.{ResourceItem}
use Rattle.tk_live.proofs.Calling.{resource_called}
use Rattle.tk_live.proofs.Changing.{kept_answer, keeps_changed, refused_stops, unrefused}
use Rattle.tk_live.proofs.items.ResourceItem.change.Goals as goal

pub returns-in-Refused-clause-did : goal.returns-in-Refused-clause-did
returns-in-Refused-clause-did g c n p i =
    let index = c.args.index in
    let op = c.args.op in
    refused_stops index op (resource_values p) c.in-Refused.refusal (sym c.in-Refused.is ∙ kept_answer p c.args.self.now.values index op c.step-values.result c.step-values.ensures i.values)

pub returns : goal.returns
returns g c = record {
  same = record { id = c.make_change.ensures.id; ledger = c.make_change.ensures.ledger };
  did = λ n p i.
      let old : ResourceItem = c.args.self.now in
      let index = c.args.index in
      let op = c.args.op in
      let next = c.step-values.result in
      let goes = unrefused index op (resource_values p) next.1 (kept_answer p old.values index op next c.step-values.ensures i.values) c.in_default.not-Refused in (
        goes.0,
        resource_called old (record old { callers = c.make_change.new.callers; values = next.0 }) old.user (Attr index op) Done c.make_change.ensures.made refl refl c.make_change.ensures.id refl refl
            (λ q kept. keeps_changed q old.values index op next c.step-values.ensures kept goes.1) n p i,
      );
}
