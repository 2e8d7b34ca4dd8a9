use Rattle.tk_screen.proofs.PutLemmas.{both}
use Rattle.tk_frame.proofs.details.push_polls.Goals as goal

pub returns : goal.returns
returns c = rw (← c.busy_until-busy.ensures)
    (both c.in_ok-push_number.ensures
    (both c.in_ok-push_time.ensures
    (both c.in_ok-push_ago.ensures
    (both c.in_ok-push_ago-2.ensures
    c.in_ok-push_ago-3.ensures))))
