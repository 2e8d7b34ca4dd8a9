use Rattle.tk_report.proofs.PutLemmas.{both}
use Rattle.tk_report.proofs.times.put_times.Goals as goal

pub returns : goal.returns
returns c = both c.in_ok-put_histogram.ensures c.in_ok-put_end.ensures
