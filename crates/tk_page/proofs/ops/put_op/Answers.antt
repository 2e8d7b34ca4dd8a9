use Rattle.tk_paper.proofs.PutLemmas.{then}
use Rattle.tk_page.proofs.ops.put_op.Goals as goal

pub returns : goal.returns
returns c =
    rw (c.as_slice.ensures.list, c.as_slice-2.ensures, c.list.ensures) at
    (then c.in_ok-put_source.ensures
    (then c.in_ok-put_op_parent.ensures
    (then c.in_ok-put_op_state.ensures
    (then c.in_ok-put_polled_by.ensures
    (then c.in_ok-put_op_numbers.ensures
    (then c.in_ok-put_attrs.ensures c.in_ok-put.ensures))))))
