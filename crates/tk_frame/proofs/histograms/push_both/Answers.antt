use Rattle.tk_screen.proofs.PutLemmas.{both}
use Rattle.tk_frame.proofs.histograms.push_both.Goals as goal

pub returns : goal.returns
returns c = both c.in_ok-push_poll_times.ensures c.in_ok-push_waits.ensures
