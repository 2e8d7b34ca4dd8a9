use Rattle.tk_page.proofs.facts.put_part.Goals as goal

pub returns : goal.returns
returns c = rw (c.share-own.ensures.share, c.before-2.ensures, c.after.ensures) at c.put.ensures
