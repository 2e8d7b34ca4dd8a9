use Rattle.tk_paper.proofs.PutLemmas.{then}
use Rattle.tk_page.proofs.calm.put_nothing_odd.Goals as goal

pub returns : goal.returns
returns c =
    then c.in_ok-put.ensures
    (then c.in_ok-put_calm_or_unseen.ensures c.in_ok-put-2.ensures)
