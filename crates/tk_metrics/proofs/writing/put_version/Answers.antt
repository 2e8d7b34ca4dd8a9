use Rattle.std.proofs.Common.{◌≡◌, ◌++◌, ◌∙◌, ℕ, List, OnOk, ap, codes, subst}
use Rattle.tk_report.specs.Pieces.{Puts}
use Rattle.tk_report.specs.declared.version.TheConstants.{VERSION}
use Rattle.tk_metrics.specs.Samples.{label, sample}
use Rattle.tk_metrics.specs.declared.family.Family.TheVariants.{Build}
use Rattle.tk_metrics.proofs.writing.put_version.Goals as goal

pub returns : goal.returns
returns c =
    let version = label (codes "version") c.as_bytes.result.now in
    let labels : c.as_slice.result.now ≡ label (codes "version") VERSION.now =
    c.as_slice.ensures.value ∙ c.in_ok-put_label.ensures.is ∙ ap (λ xs. xs ++ version) c.new-labels.ensures.items ∙ ap (label (codes "version")) c.as_bytes.ensures.value in
    subst (λ (l : List ℕ). OnOk c.put_sample.result (Puts c.args.out.now.items c.put_sample.new.out.items (sample Build (l, 1)))) labels c.put_sample.ensures
