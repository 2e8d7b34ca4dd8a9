use Rattle.tk_page.proofs.facts.put_lasting.Goals as goal

pub returns : goal.returns
returns c = rw (c.before-2.ensures, c.since.ensures, c.after.ensures) at c.put.ensures
