use Rattle.tk_paper.proofs.PutLemmas.{then}
use Rattle.tk_page.proofs.sites.put_sites_head.Goals as goal

pub returns : goal.returns
returns c = then c.in_ok-start_section.ensures c.in_ok-put.ensures
