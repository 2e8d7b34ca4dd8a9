use Rattle.std.proofs.Common.{ap, ap₂, ◌∙◌}
use Rattle.tk_core.specs.Lists.{capped}
use Rattle.tk_compare.specs.Compared.{compared}
use Rattle.tk_compare.specs.Found.{compared_findings}
use Rattle.tk_compare.specs.Recorded.{names_kept}
use Rattle.tk_compare.specs.Text.{worse_count}
use Rattle.tk_page.proofs.changed.change_page.Goals as goal

pub returns-clause-page : goal.returns-clause-page
returns-clause-page c = rw (c.spans_of-spans.ensures, c.in_ok-places.ensures, c.in_ok-findings.ensures) at c.in_ok-page.ensures

pub returns-clause-worse : goal.returns-clause-worse
returns-clause-worse c =
    let before = c.args.before.now in
    let after = c.args.after.now in
    c.worse_count-worse.ensures
    ∙ ap₂ (λ p f. capped (worse_count c.args.margin c.spans_of-spans.result p f)) c.in_ok-places.ensures c.in_ok-findings.ensures
    ∙ ap (λ s. capped (worse_count c.args.margin s (compared before after) (compared_findings (names_kept before) (names_kept after)))) c.spans_of-spans.ensures
