use Rattle.tk_paper.proofs.PutLemmas.{then}
use Rattle.tk_page.proofs.tasks_head.put_last_columns.Goals as goal

pub returns : goal.returns
returns c =
    then c.in_ok-put_column.ensures
    (then c.in_ok-put_column-2.ensures
    (then c.in_ok-put_column-3.ensures
    (then c.in_ok-put_column-4.ensures
    (then c.in_ok-put_column-5.ensures
    (then c.in_ok-put_column-6.ensures
    (then c.in_ok-put_column-7.ensures c.in_ok-put.ensures))))))
