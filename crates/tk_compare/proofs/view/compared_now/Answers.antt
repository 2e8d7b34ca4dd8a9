use Rattle.std.proofs.Common.{ap, ap₂, ◌∙◌}
use Rattle.tk_core.specs.Lists.{capped}
use Rattle.tk_compare.specs.Compared.{compared}
use Rattle.tk_compare.specs.Found.{compared_findings}
use Rattle.tk_compare.specs.Recorded.{names_kept}
use Rattle.tk_compare.specs.Text.{comparison_text, worse_count}
use Rattle.tk_compare.proofs.view.compared_now.Goals as goal

pub returns-clause-text : goal.returns-clause-text
returns-clause-text c =
    let before = c.args.before.now in
    let after = c.args.after.now in
    c.in_ok-text.ensures
    ∙ ap₂ (λ p f. comparison_text c.args.margin c.spans_of-spans.result p f) c.in_ok-places.ensures c.in_ok-findings.ensures
    ∙ ap (λ s. comparison_text c.args.margin s (compared before after) (compared_findings (names_kept before) (names_kept after))) c.spans_of-spans.ensures

pub returns-clause-worse : goal.returns-clause-worse
returns-clause-worse c =
    let before = c.args.before.now in
    let after = c.args.after.now in
    c.worse_count-worse.ensures
    ∙ ap₂ (λ p f. capped (worse_count c.args.margin c.spans_of-spans.result p f)) c.in_ok-places.ensures c.in_ok-findings.ensures
    ∙ ap (λ s. capped (worse_count c.args.margin s (compared before after) (compared_findings (names_kept before) (names_kept after)))) c.spans_of-spans.ensures
