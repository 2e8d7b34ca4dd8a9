use Rattle.tk_paper.proofs.PutLemmas.{then}
use Rattle.tk_page.proofs.facts.put_lone.Goals as goal

pub returns : goal.returns
returns c = then c.in_ok-put_timed.ensures c.in_ok-put_longest.ensures
