use Rattle.tk_screen.proofs.PutLemmas.{both}
use Rattle.tk_frame.proofs.shown.put_lag.Goals as goal

pub returns : goal.returns
returns c = both c.in_ok-put_text.ensures (both c.in_ok-put_duration.ensures c.in_ok-put_text-2.ensures)
