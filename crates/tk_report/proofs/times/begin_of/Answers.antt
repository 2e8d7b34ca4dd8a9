use Rattle.std.proofs.Common.{ap, arith, unwrap_or, ◌∙◌}
use Rattle.tk_report.proofs.PercentileLemmas.{begin_is}
use Rattle.tk_report.proofs.times.begin_of.Goals as goal

pub returns : goal.returns
returns c = c.unwrap_or.ensures ∙ (ap (λ o. unwrap_or o 0) c.bound_at.ensures ∙ begin_is c.args.bucket (λ e. omega (arith, e)))
