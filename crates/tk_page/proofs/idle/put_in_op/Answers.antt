use Rattle.tk_paper.proofs.PutLemmas.{then}
use Rattle.tk_page.proofs.idle.put_in_op.Goals as goal

pub returns : goal.returns
returns c =
    rw (c.as_str.ensures.text, c.as_slice.ensures.list, c.as_slice-2.ensures, c.list.ensures) at
    (then c.in_ok-put.ensures c.in_ok-put_short_attrs.ensures)
