use Rattle.tk_page.proofs.peaks.put_shares_said.Goals as goal

pub returns : goal.returns
returns c = rw (← c.watched-watched.ensures, ← c.share-busy.ensures.share, ← c.share-sched.ensures.share, ← c.as_str.ensures.text) c.put.ensures
