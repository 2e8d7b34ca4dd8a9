use Rattle.tk_paper.proofs.PutLemmas.{then}
use Rattle.tk_page.proofs.poll_times.put_bars.Goals as goal

pub returns : goal.returns
returns c =
    rw c.most_of.ensures at
    (then c.in_ok-put.ensures
    (then c.in_ok-put_each_bar.ensures c.in_ok-put-2.ensures))
