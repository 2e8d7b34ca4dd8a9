use Rattle.tk_screen.proofs.PutLemmas.{both}
use Rattle.tk_frame.proofs.details.push_gone.Goals as goal

pub returns : goal.returns
returns c = both c.in_ok-push_title.ensures c.in_ok-push_plain.ensures
