use Rattle.tk_core.proofs.AttrParts.{new_parts, fit_slots, is_padded, is_viewed}
use Rattle.tk_core.proofs.attr_values.AttrValues.new.Goals as goal

pub invariant_of-result : goal.invariant_of-result
invariant_of-result c =
    let kept = fit_slots c.args.values.now c.requires c.word_in.ensures.fits c.word_in-2.ensures.fits c.word_in-3.ensures.fits c.word_in-4.ensures.fits c.word_in-5.ensures.fits c.word_in-6.ensures.fits in
    rw (c.word_in.ensures.word, c.word_in-2.ensures.word, c.word_in-3.ensures.word, c.word_in-4.ensures.word, c.word_in-5.ensures.word, c.word_in-6.ensures.word, c.kind_in.ensures, c.kind_in-2.ensures, c.kind_in-3.ensures, c.kind_in-4.ensures, c.kind_in-5.ensures, c.kind_in-6.ensures) (is_padded _ c.args.values.now (new_parts c.args.values.now c.requires) kept c.requires)

pub returns : goal.returns
returns c =
    let kept = fit_slots c.args.values.now c.requires c.word_in.ensures.fits c.word_in-2.ensures.fits c.word_in-3.ensures.fits c.word_in-4.ensures.fits c.word_in-5.ensures.fits c.word_in-6.ensures.fits in
    rw (c.word_in.ensures.word, c.word_in-2.ensures.word, c.word_in-3.ensures.word, c.word_in-4.ensures.word, c.word_in-5.ensures.word, c.word_in-6.ensures.word, c.kind_in.ensures, c.kind_in-2.ensures, c.kind_in-3.ensures, c.kind_in-4.ensures, c.kind_in-5.ensures, c.kind_in-6.ensures) (is_viewed _ _ (new_parts c.args.values.now c.requires) kept)
