use Rattle.tk_client.proofs.CutLemmas.{cut-back, on-err}
use Rattle.tk_client.proofs.taking.grow_or_cut.Goals as goal

pub returns-then-is_err-clause-kept : goal.returns-then-is_err-clause-kept
returns-then-is_err-clause-kept c =
    on-err c.grow_fitting-grown.result
    (cut-back c.args.tables.now c.grow_fitting-grown.new.tables c.cut.new.self c.task_count-tasks.result c.resource_count-resources.result c.op_count-ops.result c.counted-counted.result
    c.grow_fitting-grown.ensures.grown c.task_count-tasks.ensures.count c.resource_count-resources.ensures c.op_count-ops.ensures c.counted-counted.ensures c.cut.ensures)
