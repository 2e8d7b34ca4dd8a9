use Rattle.tk_paper.proofs.PutLemmas.{then}
use Rattle.tk_page.proofs.changed_head.put_sites_said.Goals as goal

pub returns : goal.returns
returns c =
    then c.in_ok-put_fact.ensures
    (then c.in_ok-put_fact-2.ensures
    (then c.in_ok-put_fact-3.ensures
    (then c.in_ok-put_fact-4.ensures
    (c.in_ok-put_fact-5.ensures))))
