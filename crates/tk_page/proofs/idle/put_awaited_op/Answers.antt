use Rattle.tk_paper.proofs.PutLemmas.{then}
use Rattle.tk_page.proofs.idle.put_awaited_op.Goals as goal

pub returns : goal.returns
returns c =
    then c.in_ok-put.ensures (then c.in_ok-put_in_op.ensures (then c.in_ok-put_used_of.ensures c.in_ok-put_since.ensures))
