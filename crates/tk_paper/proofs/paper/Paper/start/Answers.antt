use Rattle.tk_paper.proofs.PutLemmas.{both}
use Rattle.tk_paper.proofs.paper.Paper.start.Goals as goal

pub returns : goal.returns
returns c = both c.in_ok-mark.ensures c.in_ok-mark-2.ensures
