use Rattle.tk_paper.proofs.PutLemmas.{then}
use Rattle.tk_page.proofs.sites.put_site_waits.Goals as goal

pub returns : goal.returns
returns c = then c.in_ok-put_time.ensures (then c.in_ok-put_mean.ensures (then c.in_ok-put_waits.ensures (then c.in_ok-put_held.ensures c.in_ok-put_number.ensures)))
