use Rattle.tk_page.proofs.BlameLemmas.{blames_none}
use Rattle.tk_page.proofs.blame.Blame.new.Goals as goal

pub returns-clause-nothing : goal.returns-clause-nothing
returns-clause-nothing c = blames_none _ c.in_ok-new.ensures.nothing c.new-2.ensures.items c.new-3.ensures.course
