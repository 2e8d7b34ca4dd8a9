use Rattle.tk_paper.proofs.Weaving.{no_text}
use Rattle.tk_paper.proofs.paper.Paper.new.Goals as goal

pub invariant_of-result : goal.invariant_of-result
invariant_of-result c = no_text c.new.result.items c.new.ensures.items
