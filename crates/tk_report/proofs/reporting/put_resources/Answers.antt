use Rattle.tk_report.specs.Report.{resource_lines}
use Rattle.tk_report.proofs.PutLemmas.{next_put, all_put}
use Rattle.tk_report.proofs.reporting.put_resources.Goals as goal

pub loop-place-preserved : goal.loop-place-preserved
loop-place-preserved c = next_put (resource_lines c.args.tables.now.counts) c.args.tables.now.resources c.loop-place.place c.loop-place.invariant c.in_ok-put_resource_at.ensures

pub returns : goal.returns
returns c = all_put (resource_lines c.args.tables.now.counts) c.args.tables.now.resources c.loop-place.place _ c.resource_count-place-end.ensures c.loop-place-test.false c.loop-place.invariant
