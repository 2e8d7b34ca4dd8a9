use Rattle.tk_report.proofs.PutLemmas.{both}
use Rattle.tk_report.proofs.times.put_histogram_by.Goals as goal

pub returns : goal.returns
returns c =
    (both c.in_ok-put_total.ensures
    (both c.in_ok-put.ensures
    (both c.in_ok-put_percentile.ensures
    (both c.in_ok-put_percentile-2.ensures
    c.in_ok-put_percentile-3.ensures))))
