use Rattle.tk_screen.proofs.PutLemmas.{both}
use Rattle.tk_frame.proofs.odd_lines.put_calm.Goals as goal

pub returns : goal.returns
returns c = rw (← c.earlier_text.ensures)
    (both c.in_ok-put_text.ensures
    (both c.in_ok-put_text-2.ensures
    (c.in_ok-put_waiting.ensures)))
