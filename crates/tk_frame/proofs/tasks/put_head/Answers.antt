use Rattle.tk_screen.proofs.PutLemmas.{both}
use Rattle.tk_frame.proofs.tasks.put_head.Goals as goal

pub returns : goal.returns
returns c = rw (← c.now-now.ensures, ← c.task_count.ensures.count, ← c.dropped.ensures)
    (both c.in_ok-put_text.ensures
    (both c.in_ok-put_duration.ensures
    (both c.in_ok-put_again.ensures
    (both c.in_ok-put_states.ensures
    (both c.in_ok-put_count.ensures
    c.in_ok-put_lost.ensures)))))
