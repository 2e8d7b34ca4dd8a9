use Rattle.tk_paper.proofs.PutLemmas.{then}
use Rattle.tk_page.proofs.sites.put_site.Goals as goal

pub returns : goal.returns
returns c =
    then c.in_ok-put_site_name.ensures
    (then c.in_ok-put_site_work.ensures
    (then c.in_ok-put_polls.ensures
    (then c.in_ok-put_site_waits.ensures c.in_ok-put.ensures)))
