use Rattle.tk_page.proofs.picture.put_held_span.Goals as goal

pub returns : goal.returns
returns c = rw (c.since.ensures, c.since-2.ensures, c.unwrap_or.ensures) at c.put.ensures
