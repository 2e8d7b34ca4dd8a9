use Rattle.tk_paper.proofs.PutLemmas.{then}
use Rattle.tk_page.proofs.picture.put_split_readings.Goals as goal

pub returns : goal.returns
returns c = then c.in_ok-put.ensures (then c.in_ok-put_each_split_reading.ensures c.in_ok-put-2.ensures)
