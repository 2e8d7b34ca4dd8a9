use Rattle.tk_page.proofs.idle.put_since.Goals as goal

pub returns : goal.returns
returns c = rw (c.since.ensures, c.unwrap_or-moment.ensures) at c.put.ensures
