use Rattle.tk_paper.proofs.PutLemmas.{then}
use Rattle.tk_page.proofs.tasks.put_table_head.Goals as goal

pub returns : goal.returns
returns c =
    rw (c.watched.ensures) at
    (then c.in_ok-put_caption.ensures
    (then c.in_ok-put_sum_row.ensures
    (then c.in_ok-put_first_columns.ensures
    (then c.in_ok-put_last_columns.ensures c.in_ok-put.ensures))))
