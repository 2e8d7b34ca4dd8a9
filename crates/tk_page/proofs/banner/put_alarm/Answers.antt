use Rattle.tk_paper.proofs.PutLemmas.{then}
use Rattle.tk_page.proofs.banner.put_alarm.Goals as goal

pub returns : goal.returns
returns c =
    rw (c.task_of-task.ensures, c.now.ensures) at
    (then c.in_ok-start_banner.ensures
    (then c.in_ok-put_who.ensures
    (then c.in_ok-put_doing.ensures
    (then c.in_ok-put_waiting.ensures
    (then c.in_ok-put.ensures
    (then c.in_ok-put_made.ensures c.in_ok-end_banner.ensures))))))
