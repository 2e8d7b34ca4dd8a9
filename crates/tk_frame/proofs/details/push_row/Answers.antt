use Rattle.tk_screen.proofs.PutLemmas.{both}
use Rattle.tk_frame.proofs.details.push_row.Goals as goal

pub returns : goal.returns
returns c = both c.in_ok-push_polls.ensures (both c.in_ok-push_wakes.ensures c.in_ok-push_life.ensures)
