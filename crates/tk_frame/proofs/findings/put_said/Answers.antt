use Rattle.tk_screen.proofs.PutLemmas.{both}
use Rattle.tk_frame.proofs.findings.put_said.Goals as goal

pub returns : goal.returns
returns c = rw (← c.said.ensures)
    (both c.in_ok-put_who.ensures
    (both c.in_ok-put_text.ensures
    (both c.in_ok-put_text-2.ensures
    (both c.in_ok-put_text-3.ensures
    (c.in_ok-put_figure.ensures)))))
