use Rattle.tk_report.proofs.PutLemmas.{both}
use Rattle.tk_metrics.proofs.blame.put_waited.Goals as goal

pub returns : goal.returns
returns c =
    (both c.in_ok-put_head.ensures
    (both c.in_ok-put_waited_for.ensures
    (both c.in_ok-put_waited_for-2.ensures
    c.in_ok-put_waited_for-3.ensures)))
