use Rattle.std.proofs.Common.{ap, ◌∙◌, sym}
use Rattle.std.proofs.Math.ListN.{set}
use Rattle.tk_core.specs.AttrWords.{fit_words}
use Rattle.tk_core.proofs.AttrParts.{shown, set_parts, fit_set, is_padded, is_viewed}
use Rattle.tk_core.proofs.attr_values.AttrValues.with.Goals as goal

pub invariant_of-result : goal.invariant_of-result
invariant_of-result c =
    let is = shown c.self.inside c.args.self.now c.self.invariant c.self.view_is in
    let kept = fit_set c.args.self.now c.args.index c.args.value (ap fit_words (sym c.self.view_is) ∙ c.self.invariant.1.1) c.word.ensures.fits in
    rw (c.word.ensures.word, c.kind.ensures) (is_padded _ (set c.args.self.now c.args.index c.args.value) (set_parts c.self.inside c.args.self.now c.args.index c.args.value is c.requires) kept c.self.invariant.0)

pub returns : goal.returns
returns c =
    let is = shown c.self.inside c.args.self.now c.self.invariant c.self.view_is in
    let kept = fit_set c.args.self.now c.args.index c.args.value (ap fit_words (sym c.self.view_is) ∙ c.self.invariant.1.1) c.word.ensures.fits in
    rw (c.word.ensures.word, c.kind.ensures) (is_viewed _ _ (set_parts c.self.inside c.args.self.now c.args.index c.args.value is c.requires) kept)
