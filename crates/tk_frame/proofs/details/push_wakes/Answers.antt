use Rattle.tk_screen.proofs.PutLemmas.{both}
use Rattle.tk_frame.proofs.details.push_wakes.Goals as goal

pub returns : goal.returns
returns c = rw (← c.sched_until-sched.ensures, ← c.waits_for.ensures)
    (both c.in_ok-push_number.ensures
    (both c.in_ok-push_number-2.ensures
    (both c.in_ok-push_share.ensures
    (both c.in_ok-push_ago.ensures
    (both c.in_ok-push_time.ensures
    c.in_ok-push_known.ensures)))))
