use Rattle.tk_paper.proofs.PutLemmas.{then}
use Rattle.tk_page.proofs.changed_head.put_change_header.Goals as goal

pub returns : goal.returns
returns c =
    then c.in_ok-put.ensures (then c.in_ok-put-2.ensures (then c.in_ok-put-3.ensures (then c.in_ok-put-4.ensures c.in_ok-put-5.ensures)))
