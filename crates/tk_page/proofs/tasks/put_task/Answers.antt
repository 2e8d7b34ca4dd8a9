use Rattle.tk_paper.proofs.PutLemmas.{then}
use Rattle.tk_page.proofs.tasks.put_task.Goals as goal

pub returns : goal.returns
returns c =
    rw (c.has_any.ensures) at
    (then c.in_ok-put_name.ensures
    (then c.in_ok-put_badges.ensures
    (then c.in_ok-put_awaited.ensures
    (then c.in_ok-put_state.ensures
    (then c.in_ok-put_strip.ensures
    (then c.in_ok-put.ensures
    (then c.in_ok-put_numbers.ensures c.in_ok-put-2.ensures)))))))
