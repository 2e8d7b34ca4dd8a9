use Rattle.tk_screen.proofs.PutLemmas.{both}
use Rattle.tk_frame.proofs.shown.push_others.Goals as goal

pub returns : goal.returns
returns c =
    both c.in_ok-push_plain.ensures
    (both c.in_ok-push_plain-2.ensures
    (both c.in_ok-push_plain-3.ensures
    (both c.in_ok-push_plain-4.ensures
    (both c.in_ok-push_plain-5.ensures
    (both c.in_ok-push_plain-6.ensures
    c.in_ok-push_plain-7.ensures)))))
