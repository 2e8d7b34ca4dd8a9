use Rattle.tk_screen.proofs.PutLemmas.{both}
use Rattle.tk_frame.proofs.shown.put_silence.Goals as goal

pub returns : goal.returns
returns c = rw (c.saturating_mul.ensures) at (both c.in_ok-put_text.ensures c.in_ok-put_duration.ensures)
