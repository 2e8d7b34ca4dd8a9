use Rattle.tk_paper.proofs.PutLemmas.{then}
use Rattle.tk_page.proofs.tasks_head.put_sum_row.Goals as goal

pub returns : goal.returns
returns c =
    rw (c.watched.ensures) at
    (then c.in_ok-put_height.ensures
    (then c.in_ok-put_whom_legend.ensures
    (then c.in_ok-put_picture.ensures
    (then c.in_ok-put_axis.ensures
    (then c.in_ok-put.ensures
    (then c.in_ok-put_marks.ensures c.in_ok-put-2.ensures))))))
