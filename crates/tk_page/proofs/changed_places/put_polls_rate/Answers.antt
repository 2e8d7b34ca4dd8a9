use Rattle.tk_page.proofs.changed_places.put_polls_rate.Goals as goal

pub returns : goal.returns
returns c = rw (c.rate_in_hundredths-old.ensures, c.rate_in_hundredths-new.ensures) at c.put_rates.ensures
