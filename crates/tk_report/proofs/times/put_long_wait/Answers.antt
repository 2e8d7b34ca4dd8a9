use Rattle.tk_report.proofs.PutLemmas.{both}
use Rattle.tk_report.proofs.times.put_long_wait.Goals as goal

pub returns : goal.returns
returns c =
    (both c.in_ok-put.ensures
    (both c.in_ok-put-2.ensures
    c.in_ok-put_end.ensures))
