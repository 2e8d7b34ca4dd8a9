use Rattle.tk_page.proofs.changed_places.put_time_rate.Goals as goal

pub returns : goal.returns
returns c = rw (c.rate-old.ensures, c.rate-new.ensures) at c.put_times.ensures
