use Rattle.tk_screen.proofs.PutLemmas.{both}
use Rattle.tk_frame.proofs.shown.push_keys.Goals as goal

pub returns : goal.returns
returns c = both c.in_ok-push_columns.ensures (both c.in_ok-push_steps.ensures c.in_ok-push_others.ensures)
