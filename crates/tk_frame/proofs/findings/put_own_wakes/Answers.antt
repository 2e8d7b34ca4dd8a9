use Rattle.tk_screen.proofs.PutLemmas.{both}
use Rattle.tk_frame.proofs.findings.put_own_wakes.Goals as goal

pub returns : goal.returns
returns c =
    both c.in_ok-put_share.ensures
    (c.in_ok-put_text.ensures)
