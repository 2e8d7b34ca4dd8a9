use Rattle.tk_screen.proofs.PutLemmas.{both}
use Rattle.tk_frame.proofs.findings.put_advice.Goals as goal

pub returns : goal.returns
returns c = rw (← c.advice.ensures)
    (both c.in_ok-put_text.ensures
    (c.in_ok-put_text-2.ensures))
