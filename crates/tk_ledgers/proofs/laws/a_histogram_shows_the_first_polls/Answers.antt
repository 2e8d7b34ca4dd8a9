use Rattle.tk_ledgers.proofs.ScopeLemmas.{stays_timed}
use Rattle.tk_ledgers.proofs.TimesReadingLemmas.{first_polls, first_before, all_polls}
use Rattle.tk_ledgers.proofs.laws.a_histogram_shows_the_first_polls.Goals as goal

pub returns : goal.returns
returns c = record { first = first_polls; before = first_before; all = all_polls; stays = stays_timed }
