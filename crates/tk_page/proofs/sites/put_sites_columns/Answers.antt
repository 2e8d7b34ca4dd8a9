use Rattle.tk_paper.proofs.PutLemmas.{then}
use Rattle.tk_page.proofs.sites.put_sites_columns.Goals as goal

pub returns : goal.returns
returns c =
    then c.in_ok-put_column.ensures
    (then c.in_ok-put_column-2.ensures
    (then c.in_ok-put_column-3.ensures
    (then c.in_ok-put_column-4.ensures
    (then c.in_ok-put_column-5.ensures
    (then c.in_ok-put_column-6.ensures
    (then c.in_ok-put_column-7.ensures
    (then c.in_ok-put_times_columns.ensures
    (then c.in_ok-put_column-8.ensures
    (then c.in_ok-put_column-9.ensures
    (then c.in_ok-put_column-10.ensures
    (then c.in_ok-put_column-11.ensures
    (then c.in_ok-put_column-12.ensures c.in_ok-put.ensures))))))))))))
