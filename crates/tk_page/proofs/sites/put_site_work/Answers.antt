use Rattle.tk_paper.proofs.PutLemmas.{then}
use Rattle.tk_page.proofs.sites.put_site_work.Goals as goal

pub returns : goal.returns
returns c =
    rw (c.open_of.ensures) at
    (then c.in_ok-put_number.ensures
    (then c.in_ok-put_number-2.ensures
    (then c.in_ok-put_number-3.ensures
    (then c.in_ok-put_time.ensures
    (then c.in_ok-put_number-4.ensures c.in_ok-put_mean.ensures)))))
