use Rattle.tk_events.proofs.AttrLemmas.{taken_values}
use Rattle.tk_live.proofs.interpreter.resources.first_values.Goals as goal

pub returns-clause-few : goal.returns-clause-few
returns-clause-few c = taken_values c.args.attrs.now c.as_slice-attr-items.result.now c.loop-attr.attr-index c.loop-attr.values.items c.as_slice-attr-items.ensures.list c.as_slice-attr-items.ensures.attrs c.loop-attr.invariant
