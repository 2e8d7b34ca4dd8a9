use Rattle.std.proofs.Common.{ap₂, ◌∙◌}
use Rattle.tk_compare.specs.Found.{compared_findings}
use Rattle.tk_compare.specs.Names.{texts}
use Rattle.tk_compare.proofs.view.findings_of_both.Goals as goal

pub returns : goal.returns
returns c = c.in_ok-findings.ensures ∙ ap₂ (λ o n. compared_findings (texts o) (texts n)) c.as_slice-old.ensures.value c.as_slice-new.ensures.value
