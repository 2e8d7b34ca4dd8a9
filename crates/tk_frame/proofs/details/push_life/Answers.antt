use Rattle.tk_screen.proofs.PutLemmas.{both}
use Rattle.tk_frame.proofs.details.push_life.Goals as goal

pub returns : goal.returns
returns c =
    both c.in_ok-push_number.ensures
    (both c.in_ok-push_number-2.ensures
    (both c.in_ok-push_number-3.ensures
    (both c.in_ok-push_ago.ensures
    c.in_ok-push_ago-2.ensures)))
