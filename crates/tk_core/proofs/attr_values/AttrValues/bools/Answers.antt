use Rattle.std.proofs.Common.{◌≤◌, length, sym, arith}
use Rattle.tk_core.specs.Laws.AttrReadBack.{six_words}
use Rattle.tk_core.proofs.attr_values.AttrValues.bools.Goals as goal

pub returns-clause-value : goal.returns-clause-value
returns-clause-value c =
    let le : length c.args.self.now ≤ 6 = omega arith in
    let six = six_words c.args.self.now le in
    rw (c.bool_at.ensures.value, c.bool_at-2.ensures.value, c.bool_at-3.ensures.value, c.bool_at-4.ensures.value, c.bool_at-5.ensures.value, c.bool_at-6.ensures.value) (sym six.1.0)
