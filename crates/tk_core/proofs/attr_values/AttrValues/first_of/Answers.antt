use Rattle.std.proofs.Common.{take, arith}
use Rattle.std.proofs.Math.Nat.{min-le_right}
use Rattle.tk_core.specs.AttrValues.{values_by}
use Rattle.tk_core.proofs.AttrParts.{first_parts, fit_front, six_fit, is_padded, is_viewed}
use Rattle.tk_core.proofs.attr_values.AttrValues.first_of.Goals as goal

pub invariant_of-result : goal.invariant_of-result
invariant_of-result c =
    let kept = fit_front c.args.count _ (six_fit c.args.words.now c.args.kinds.now _ _ (omega arith) (omega arith) c.kept_word.ensures.fits c.kept_word-2.ensures.fits c.kept_word-3.ensures.fits c.kept_word-4.ensures.fits c.kept_word-5.ensures.fits c.kept_word-6.ensures.fits) in
    rw (c.kept_word.ensures.word, c.kept_word-2.ensures.word, c.kept_word-3.ensures.word, c.kept_word-4.ensures.word, c.kept_word-5.ensures.word, c.kept_word-6.ensures.word, c.kept_kind.ensures, c.kept_kind-2.ensures, c.kept_kind-3.ensures, c.kept_kind-4.ensures, c.kept_kind-5.ensures, c.kept_kind-6.ensures, c.min.ensures) (is_padded _ (take c.args.count (values_by c.args.words.now c.args.kinds.now)) (first_parts c.args.count c.args.words.now c.args.kinds.now _ _ (omega arith) (omega arith)) kept (min-le_right _ _))

pub returns : goal.returns
returns c =
    let kept = fit_front c.args.count _ (six_fit c.args.words.now c.args.kinds.now _ _ (omega arith) (omega arith) c.kept_word.ensures.fits c.kept_word-2.ensures.fits c.kept_word-3.ensures.fits c.kept_word-4.ensures.fits c.kept_word-5.ensures.fits c.kept_word-6.ensures.fits) in
    rw (c.kept_word.ensures.word, c.kept_word-2.ensures.word, c.kept_word-3.ensures.word, c.kept_word-4.ensures.word, c.kept_word-5.ensures.word, c.kept_word-6.ensures.word, c.kept_kind.ensures, c.kept_kind-2.ensures, c.kept_kind-3.ensures, c.kept_kind-4.ensures, c.kept_kind-5.ensures, c.kept_kind-6.ensures, c.min.ensures) (is_viewed _ _ (first_parts c.args.count c.args.words.now c.args.kinds.now _ _ (omega arith) (omega arith)) kept)
