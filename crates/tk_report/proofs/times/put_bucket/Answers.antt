use Rattle.tk_report.proofs.PutLemmas.{both}
use Rattle.tk_report.proofs.times.put_bucket.Goals as goal

pub returns : goal.returns
returns c =
    (both c.in_ok-put.ensures
    (both c.in_ok-put_begin.ensures
    c.in_ok-put_high.ensures))
