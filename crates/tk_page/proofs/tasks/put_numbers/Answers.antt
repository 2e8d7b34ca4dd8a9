use Rattle.tk_paper.proofs.PutLemmas.{then}
use Rattle.tk_page.proofs.tasks.put_numbers.Goals as goal

pub returns : goal.returns
returns c =
    rw (c.watched-watched.ensures, c.busy_until-busy.ensures, c.sched_until-sched.ensures) at
    (then c.in_ok-put_share_cell.ensures
    (then c.in_ok-put_share_cell-2.ensures
    (then c.in_ok-put_mean.ensures c.in_ok-put_counts.ensures)))
