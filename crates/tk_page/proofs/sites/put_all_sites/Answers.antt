use Rattle.tk_paper.proofs.PutLemmas.{then}
use Rattle.tk_page.proofs.sites.put_all_sites.Goals as goal

pub returns : goal.returns
returns c =
    rw (c.len.ensures.len) at
    (then c.in_ok-put_sites_head.ensures
    (then c.in_ok-put_sites_table.ensures
    (then c.in_ok-put_more.ensures c.in_ok-put.ensures)))
