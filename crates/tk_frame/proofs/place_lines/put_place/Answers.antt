use Rattle.tk_screen.proofs.PutLemmas.{both}
use Rattle.tk_frame.proofs.place_lines.put_place.Goals as goal

pub returns : goal.returns
returns c = rw (← c.mark_of.ensures)
    (both c.in_ok-put_text.ensures
    (both c.in_ok-put_where.ensures
    c.in_ok-put_figures.ensures))
