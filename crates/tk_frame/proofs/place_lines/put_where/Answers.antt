use Rattle.tk_screen.proofs.PutLemmas.{both}
use Rattle.tk_frame.proofs.place_lines.put_where.Goals as goal

pub returns : goal.returns
returns c = rw (← c.location_in.ensures, ← c.end_of.ensures, ← c.name_in.ensures, ← c.front_of.ensures)
    (both c.in_ok-put_bytes.ensures c.in_ok-put_bytes-2.ensures)
