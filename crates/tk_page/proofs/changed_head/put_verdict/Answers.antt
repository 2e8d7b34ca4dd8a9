use Rattle.tk_paper.proofs.PutLemmas.{then}
use Rattle.tk_page.proofs.changed_head.put_verdict.Goals as goal

pub returns : goal.returns
returns c =
    rw (c.site_counts-sites.ensures, c.found_counts-found.ensures) at
    (then c.in_ok-put_verdict_head.ensures
    (then c.in_ok-put_waiting_said.ensures (then c.in_ok-put_sites_said.ensures (then c.in_ok-put_found_said.ensures c.in_ok-put.ensures))))
