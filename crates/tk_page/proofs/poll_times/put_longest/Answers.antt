use Rattle.tk_paper.proofs.PutLemmas.{then}
use Rattle.tk_page.proofs.poll_times.put_longest.Goals as goal

pub returns : goal.returns
returns c = then c.in_ok-put.ensures (then c.in_ok-put_bars.ensures c.in_ok-put-2.ensures)
