use Rattle.tk_page.proofs.facts.put_steps.Goals as goal

pub returns : goal.returns
returns c = rw (c.since.ensures, c.since-2.ensures) at c.put.ensures
