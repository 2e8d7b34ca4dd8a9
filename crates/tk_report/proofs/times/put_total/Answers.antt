use Rattle.tk_report.proofs.times.put_total.Goals as goal

pub returns : goal.returns
returns c = rw (← c.total_of.ensures) c.put.ensures
