use Rattle.tk_paper.proofs.PutLemmas.{then}
use Rattle.tk_page.proofs.calm.put_calm.Goals as goal

pub returns : goal.returns
returns c =
    then c.in_ok-put.ensures
    (then c.in_ok-put_mean_wait.ensures
    (then c.in_ok-put_unsure.ensures c.in_ok-put-2.ensures))
