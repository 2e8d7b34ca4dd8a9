use Rattle.tk_screen.proofs.PutLemmas.{both}
use Rattle.tk_frame.proofs.findings.put_number.Goals as goal

pub returns : goal.returns
returns c = rw (← c.when_word.ensures)
    (both c.in_ok-put_value.ensures
    (c.in_ok-put_word.ensures))
