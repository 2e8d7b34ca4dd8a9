use Rattle.std.proofs.Common.{ℕ, List, ◌++◌, ap₂, append_assoc, subst, ◌∙◌}
use Rattle.tk_report.specs.Pieces.{Puts}
use Rattle.tk_report.proofs.PutLemmas.{both}
use Rattle.tk_compare.specs.Found.{finding_lines}
use Rattle.tk_compare.specs.Lines.{place_lines}
use Rattle.tk_compare.specs.Text.{findings_said, found_counts, places_said, site_counts}
use Rattle.tk_compare.proofs.text.put_text.Goals as goal

pub returns : goal.returns
returns c =
    let places = c.args.places.now in
    let findings = c.args.findings.now in
    let rest : List ℕ = finding_lines findings ++ place_lines c.args.margin c.args.spans places in
    subst (Puts _ _)
    (ap₂ (λ s f. (places_said s ++ findings_said f) ++ rest) c.site_counts-sites.ensures c.found_counts-found.ensures
    ∙ append_assoc (places_said (site_counts c.args.margin c.args.spans places)) (findings_said (found_counts findings)) rest)
    (both c.in_ok-put_sentence.ensures (both c.in_ok-put_findings.ensures c.in_ok-put_places.ensures))
