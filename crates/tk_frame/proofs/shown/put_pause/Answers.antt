use Rattle.tk_screen.proofs.PutLemmas.{both}
use Rattle.tk_frame.proofs.shown.put_pause.Goals as goal

pub returns : goal.returns
returns c = both c.in_ok-put_text.ensures c.in_ok-put_behind.ensures
