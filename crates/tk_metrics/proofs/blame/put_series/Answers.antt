use Rattle.tk_metrics.specs.Blame.{finding_sample}
use Rattle.tk_report.proofs.PutLemmas.{both, next_put, all_put}
use Rattle.tk_metrics.proofs.blame.put_series.Goals as goal

pub loop-place-preserved : goal.loop-place-preserved
loop-place-preserved c = next_put finding_sample c.args.series.now c.loop-place.place c.loop-place.invariant c.in_ok-put_finding_at.ensures

pub returns : goal.returns
returns c = both c.in_ok-put_head.ensures (all_put finding_sample c.args.series.now c.loop-place.place _ c.len-place-end.ensures c.loop-place-test.false c.loop-place.invariant)
