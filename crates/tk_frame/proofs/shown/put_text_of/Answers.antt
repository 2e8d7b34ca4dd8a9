use Rattle.tk_screen.proofs.PutLemmas.{both}
use Rattle.tk_frame.proofs.shown.put_text_of.Goals as goal

pub returns : goal.returns
returns c = rw (← c.text.ensures)
    (both c.in_ok-put_text.ensures
    (both c.in_ok-put_place.ensures
    c.in_ok-put_text-2.ensures))
