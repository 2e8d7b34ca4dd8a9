use Rattle.tk_paper.proofs.PutLemmas.{then}
use Rattle.tk_page.proofs.facts.put_held.Goals as goal

pub returns : goal.returns
returns c = then c.in_ok-put_steps.ensures (then c.in_ok-put_timed.ensures (then c.in_ok-put_longest.ensures c.in_ok-put_alone.ensures))
