use Rattle.tk_paper.proofs.PutLemmas.{then}
use Rattle.tk_page.proofs.poll_times.put_unknown.Goals as goal

pub returns : goal.returns
returns c = then c.in_ok-put_dash.ensures (then c.in_ok-put_dash-2.ensures c.in_ok-put_dash-3.ensures)
