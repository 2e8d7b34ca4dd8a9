use Rattle.tk_screen.proofs.PutLemmas.{both}
use Rattle.tk_frame.proofs.findings.put_source.Goals as goal

pub returns : goal.returns
returns c = rw (← c.name.ensures)
    (both c.in_ok-put_text.ensures
    (both c.in_ok-put_text-2.ensures
    (both c.in_ok-put_made.ensures
    (c.in_ok-put_text-3.ensures))))
