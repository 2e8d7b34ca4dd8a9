use Rattle.tk_paper.proofs.PutLemmas.{then}
use Rattle.tk_page.proofs.picture.put_whom_keys.Goals as goal

pub returns : goal.returns
returns c =
    then c.in_ok-put.ensures
    (then c.in_ok-put_whom_key_at.ensures
    (then c.in_ok-put_whom_key_at-2.ensures c.in_ok-put-2.ensures))
