use Rattle.tk_paper.proofs.PutLemmas.{both}
use Rattle.tk_paper.proofs.paper.Paper.attr.Goals as goal

pub returns : goal.returns
returns c = both c.in_ok-mark.ensures (both c.in_ok-text.ensures c.in_ok-mark-2.ensures)
