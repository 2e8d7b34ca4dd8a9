use Rattle.std.proofs.Common.{ap, ◌∙◌}
use Rattle.tk_page.specs.Strips.{step_with}
use Rattle.tk_page.proofs.peaks.peak.Goals as goal

pub returns : goal.returns
returns c = c.step_with.ensures ∙ ap (λ n. step_with c.args.kind n c.args.steps.now) c.most_part.ensures
