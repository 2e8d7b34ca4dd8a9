use Rattle.std.proofs.Common.{ap, subst, ◌∙◌, map}
use Rattle.std.specs.Prelude.{OnOk}
use Rattle.tk_odd.specs.Findings.{placed}
use Rattle.tk_report.specs.Pieces.{Puts}
use Rattle.tk_metrics.specs.Blame.{finding_sample, finding_series}
use Rattle.tk_metrics.specs.Samples.{family}
use Rattle.tk_metrics.specs.declared.family.Family.TheVariants.{Findings}
use Rattle.tk_metrics.proofs.blame.put_odd.Goals as goal

pub returns : goal.returns
returns c = λ shown d.
    subst (λ xs. OnOk c.put_findings.result (Puts c.args.out.now.items c.put_findings.new.out.items (family Findings finding_sample (finding_series c.args.by xs))))
    (ap (map placed) c.deref.ensures.value ∙ c.in_ok-list.ensures shown d) c.put_findings.ensures
