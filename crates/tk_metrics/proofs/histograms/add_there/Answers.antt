use Rattle.tk_metrics.specs.Histograms.{task_histogram}
use Rattle.tk_metrics.proofs.HistogramLemmas.{all_added, next_added}
use Rattle.tk_metrics.proofs.histograms.add_there.Goals as goal

pub loop-place-preserved : goal.loop-place-preserved
loop-place-preserved c = next_added (task_histogram c.args.timing c.args.keys.now c.args.times.now) c.args.series.now c.loop-place.series _ c.args.tables.now.tasks c.loop-place.place c.loop-place.invariant c.in_ok-add_there_at.ensures

pub returns : goal.returns
returns c = all_added (task_histogram c.args.timing c.args.keys.now c.args.times.now) c.args.series.now c.loop-place.series c.args.tables.now.tasks c.loop-place.place _ c.task_count-place-end.ensures.count c.loop-place-test.false c.loop-place.invariant
