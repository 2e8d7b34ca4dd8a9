use Rattle.tk_report.proofs.PercentileLemmas.{percentile_is}
use Rattle.tk_report.proofs.times.percentile_of.Goals as goal

pub returns : goal.returns
returns c = percentile_is c.args.percent c.args.counts.now c.percentile.result c.percentile.ensures
