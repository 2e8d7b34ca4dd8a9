use Rattle.tk_paper.proofs.PutLemmas.{then}
use Rattle.tk_page.proofs.peaks.put_words.Goals as goal

pub returns : goal.returns
returns c =
    then c.in_ok-put_shares_said.ensures
    (then c.in_ok-put_peak.ensures
    (then c.in_ok-put_peak-2.ensures c.in_ok-put.ensures))
