use Rattle.tk_paper.proofs.PutLemmas.{then}
use Rattle.tk_page.proofs.changed.put_finding.Goals as goal

pub returns : goal.returns
returns c = then c.in_ok-put_finding_head.ensures (then c.in_ok-put_site_text.ensures c.in_ok-put.ensures)
