use Rattle.tk_paper.proofs.PutLemmas.{then}
use Rattle.tk_page.proofs.tasks_head.put_height.Goals as goal

pub returns : goal.returns
returns c =
    then c.in_ok-put.ensures
    (then c.in_ok-put_top.ensures c.in_ok-put-2.ensures)
