use Rattle.std.proofs.Common.{sym, arith}
use Rattle.tk_core.proofs.AttrParts.{value_at_place}
use Rattle.tk_core.proofs.attr_values.AttrValues.get.Goals as goal

pub returns : goal.returns
returns c = rw (c.value_by.ensures, ← c.self.view_is) (sym (value_at_place c.self.inside.count c.args.index c.self.inside.words c.self.inside.kinds _ _ (omega arith) (omega arith) (omega arith)))
