use Rattle.tk_screen.proofs.PutLemmas.{both}
use Rattle.tk_frame.proofs.findings.put_timed.Goals as goal

pub returns : goal.returns
returns c =
    both c.in_ok-put_text.ensures
    (c.in_ok-put_duration.ensures)
