use Rattle.tk_report.proofs.times.put_begin.Goals as goal

pub returns : goal.returns
returns c = rw (← c.begin_of.ensures) c.put.ensures
