use Rattle.tk_screen.proofs.PutLemmas.{both}
use Rattle.tk_frame.proofs.polled.push_op.Goals as goal

pub returns : goal.returns
returns c = rw (← c.now.ensures) (both c.in_ok-push_line.ensures c.in_ok-push_resource_of.ensures)
