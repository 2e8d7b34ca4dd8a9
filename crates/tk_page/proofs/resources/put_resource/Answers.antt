use Rattle.tk_paper.proofs.PutLemmas.{then}
use Rattle.tk_page.proofs.resources.put_resource.Goals as goal

pub returns : goal.returns
returns c =
    rw (c.as_slice.ensures.list, c.as_slice-2.ensures, c.list.ensures, c.poll_counts.ensures) at
    (then c.in_ok-put_resource_name.ensures
    (then c.in_ok-put_resource_parent.ensures
    (then c.in_ok-put.ensures
    (then c.in_ok-put_attrs.ensures
    (then c.in_ok-put_waiters.ensures
    (then c.in_ok-put_polls.ensures
    (then c.in_ok-put_ops.ensures c.in_ok-put-2.ensures)))))))
