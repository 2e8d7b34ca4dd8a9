use Rattle.tk_screen.proofs.PutLemmas.{both}
use Rattle.tk_frame.proofs.shown.push_rows.Goals as goal

pub returns : goal.returns
returns c = rw (← c.rows_above.ensures, ← c.rows_below.ensures)
    (both c.in_ok-push_tasks.ensures (both c.in_ok-push_choice.ensures c.in_ok-push_tasks-2.ensures))
