use Rattle.tk_screen.proofs.PutLemmas.{both}
use Rattle.tk_frame.proofs.place_lines.put_figures.Goals as goal

pub returns : goal.returns
returns c = rw (← c.open_tasks-open.ensures)
    (both c.in_ok-put_value.ensures
    (both c.in_ok-put_value-2.ensures
    (both c.in_ok-put_time.ensures
    (both c.in_ok-put_known_cell.ensures
    (both c.in_ok-put_value-3.ensures
    (both c.in_ok-put_time-2.ensures
    c.in_ok-put_known_last.ensures))))))
