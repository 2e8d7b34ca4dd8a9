use Rattle.std.proofs.Common.{ap, sym, ◌∙◌, map}
use Rattle.std.proofs.lemmas.List.{take_all}
use Rattle.tk_odd.specs.Findings.{placed}
use Rattle.tk_series.specs.Series.{with_value}
use Rattle.tk_metrics.specs.Blame.{finding_entry, finding_series, plus_tally}
use Rattle.tk_metrics.proofs.BlameLemmas.{finding_more}
use Rattle.tk_metrics.proofs.blame.series_of_findings.Goals as goal

pub loop-found-preserved : goal.loop-found-preserved
loop-found-preserved c =
    let by = c.args.by in
    let found = c.found-item.result in
    c.in_ok-add_finding.ensures
    ∙ ap (λ s. with_value plus_tally (finding_entry by (placed found)).0 (finding_entry by (placed found)).1 s) c.loop-found.invariant
    ∙ sym (finding_more by c.args.list.now c.loop-found.found-index found c.loop-found-test.true c.found-item.is)

pub returns : goal.returns
returns c =
    c.loop-found.invariant ∙ ap (λ xs. finding_series c.args.by (map placed xs)) (take_all c.loop-found.found-index c.args.list.now c.loop-found-test.false)
