use Rattle.tk_screen.proofs.PutLemmas.{both}
use Rattle.tk_frame.proofs.histograms.push_poll_times.Goals as goal

pub returns : goal.returns
returns c =
    both c.in_ok-push_high.ensures
    (both c.in_ok-push_high-2.ensures
    (both c.in_ok-push_time.ensures
    c.in_ok-push_buckets.ensures))
