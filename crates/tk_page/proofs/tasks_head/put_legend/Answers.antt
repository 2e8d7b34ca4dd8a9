use Rattle.tk_paper.proofs.PutLemmas.{then}
use Rattle.tk_page.proofs.tasks_head.put_legend.Goals as goal

pub returns : goal.returns
returns c =
    then c.in_ok-put.ensures
    (then c.in_ok-put_key.ensures
    (then c.in_ok-put_key-2.ensures
    (then c.in_ok-put_key-3.ensures
    (then c.in_ok-put_key-4.ensures
    (then c.in_ok-put_key-5.ensures
    (then c.in_ok-put_key-6.ensures c.in_ok-put-2.ensures))))))
