use Rattle.tk_paper.proofs.PutLemmas.{then}
use Rattle.tk_page.proofs.drawing.put_dropped.Goals as goal

pub returns : goal.returns
returns c =
    then c.in_ok-put.ensures
    (then c.in_ok-put_fact.ensures
    (then c.in_ok-put_fact-2.ensures
    (then c.in_ok-put_fact-3.ensures c.in_ok-put-2.ensures)))
