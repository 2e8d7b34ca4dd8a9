use Rattle.tk_report.proofs.PutLemmas.{both}
use Rattle.tk_metrics.proofs.writing.put_dropped.Goals as goal

pub returns : goal.returns
returns c =
    (both c.in_ok-put_head.ensures
    (both c.in_ok-put_kind.ensures
    (both c.in_ok-put_kind-2.ensures
    c.in_ok-put_kind-3.ensures)))
