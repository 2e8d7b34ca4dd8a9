use Rattle.std.proofs.Common.{subst}
use Rattle.std.specs.Prelude.{OnOk}
use Rattle.tk_report.specs.Pieces.{Puts}
use Rattle.tk_metrics.specs.Blame.{finding_sample}
use Rattle.tk_metrics.specs.Samples.{family}
use Rattle.tk_metrics.specs.declared.family.Family.TheVariants.{Findings}
use Rattle.tk_metrics.proofs.blame.put_findings.Goals as goal

pub returns : goal.returns
returns c =
    subst (λ s. OnOk c.put_series.result (Puts c.args.out.now.items c.put_series.new.out.items (family Findings finding_sample s))) c.in_ok-series.ensures c.put_series.ensures
