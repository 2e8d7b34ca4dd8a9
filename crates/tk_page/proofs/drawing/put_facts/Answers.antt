use Rattle.tk_paper.proofs.PutLemmas.{then}
use Rattle.tk_page.proofs.drawing.put_facts.Goals as goal

pub returns : goal.returns
returns c =
    rw (c.count.ensures, c.count-2.ensures, c.count-3.ensures, c.task_count-tasks.ensures.count, c.resource_count-resources.ensures, c.op_count-ops.ensures, c.now.ensures) at
    (then c.in_ok-put_fact.ensures
    (then c.in_ok-put_fact-2.ensures
    (then c.in_ok-put_fact-3.ensures
    (then c.in_ok-put_fact-4.ensures c.in_ok-put.ensures))))
