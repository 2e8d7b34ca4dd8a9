use Rattle.tk_paper.proofs.PutLemmas.{then}
use Rattle.tk_page.proofs.idle.put_waiter_line.Goals as goal

pub returns : goal.returns
returns c =
    then c.in_ok-put.ensures (then c.in_ok-put_link.ensures (then c.in_ok-put-2.ensures (then c.in_ok-put_in_op.ensures c.in_ok-put_since.ensures)))
