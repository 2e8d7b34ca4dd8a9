use Rattle.tk_paper.proofs.PutLemmas.{then}
use Rattle.tk_page.proofs.drawing.put_header.Goals as goal

pub returns : goal.returns
returns c =
    rw (c.dropped.ensures) at
    (then c.in_ok-put.ensures
    (then c.in_ok-put_facts.ensures
    (then c.in_ok-put_gone.ensures
    (then c.in_ok-put-2.ensures
    (then c.in_ok-put_missing.ensures
    (then c.in_ok-put_late.ensures c.in_ok-put-3.ensures))))))
