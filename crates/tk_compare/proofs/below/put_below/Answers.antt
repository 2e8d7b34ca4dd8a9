use Rattle.tk_report.proofs.PutLemmas.{both}
use Rattle.tk_compare.proofs.below.put_below.Goals as goal

pub returns : goal.returns
returns c = both c.in_ok-put_if_any.ensures (both c.in_ok-put_if_any-2.ensures (both c.in_ok-put_if_any-3.ensures c.in_ok-put_if_any-4.ensures))
