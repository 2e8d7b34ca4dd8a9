use Rattle.tk_paper.proofs.PutLemmas.{then}
use Rattle.tk_page.proofs.poll_times.put_known.Goals as goal

pub returns : goal.returns
returns c = then c.in_ok-put_percentile.ensures (then c.in_ok-put_percentile-2.ensures c.in_ok-put_longest.ensures)
