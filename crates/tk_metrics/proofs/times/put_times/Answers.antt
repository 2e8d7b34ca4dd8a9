use Rattle.tk_metrics.specs.Histograms.{times_sample}
use Rattle.tk_report.proofs.PutLemmas.{next_put}
use Rattle.tk_metrics.proofs.times.put_times.Goals as goal

pub loop-place-preserved : goal.loop-place-preserved
loop-place-preserved c = next_put (times_sample c.args.timing) c.args.series.now c.loop-place.place c.loop-place.invariant c.in_ok-put_times_at.ensures
