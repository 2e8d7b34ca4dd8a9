use Rattle.tk_report.specs.Report.{op_lines}
use Rattle.tk_report.proofs.PutLemmas.{next_put, all_put}
use Rattle.tk_report.proofs.reporting.put_ops.Goals as goal

pub loop-place-preserved : goal.loop-place-preserved
loop-place-preserved c = next_put op_lines c.args.tables.now.ops c.loop-place.place c.loop-place.invariant c.in_ok-put_op_at.ensures

pub returns : goal.returns
returns c = all_put op_lines c.args.tables.now.ops c.loop-place.place _ c.op_count-place-end.ensures c.loop-place-test.false c.loop-place.invariant
