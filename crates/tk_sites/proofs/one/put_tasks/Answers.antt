use Rattle.tk_report.proofs.PutLemmas.{all_put, next_put}
use Rattle.tk_sites.specs.One.{is_of, lines_if}
use Rattle.tk_sites.proofs.one.put_tasks.Goals as goal

pub loop-at-preserved : goal.loop-at-preserved
loop-at-preserved c = next_put (lines_if (is_of c.args.sites.now.first c.args.index) c.args.shown c.args.times.now) c.args.tables.now.tasks c.loop-at.at c.loop-at.invariant c.in_ok-put_task_at.ensures

pub returns : goal.returns
returns c = all_put (lines_if (is_of c.args.sites.now.first c.args.index) c.args.shown c.args.times.now) c.args.tables.now.tasks c.loop-at.at _ c.task_count-at-end.ensures.count c.loop-at-test.false c.loop-at.invariant
