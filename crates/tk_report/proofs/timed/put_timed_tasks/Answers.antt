use Rattle.tk_report.specs.Timed.{task_lines}
use Rattle.tk_report.proofs.PutLemmas.{next_put, all_put}
use Rattle.tk_report.proofs.timed.put_timed_tasks.Goals as goal

pub loop-place-preserved : goal.loop-place-preserved
loop-place-preserved c = next_put (task_lines c.args.shown c.args.times.now) c.args.tables.now.tasks c.loop-place.place c.loop-place.invariant c.in_ok-put_task_lines_at.ensures

pub returns : goal.returns
returns c = all_put (task_lines c.args.shown c.args.times.now) c.args.tables.now.tasks c.loop-place.place _ c.task_count-place-end.ensures.count c.loop-place-test.false c.loop-place.invariant
