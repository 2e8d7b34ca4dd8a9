use Rattle.tk_report.proofs.PutLemmas.{both}
use Rattle.tk_compare.proofs.lines.put_places.Goals as goal

pub returns : goal.returns
returns c = both c.in_ok-put_rank.ensures (both c.in_ok-put_rank-2.ensures (both c.in_ok-put_rank-3.ensures c.in_ok-put_rank-4.ensures))
