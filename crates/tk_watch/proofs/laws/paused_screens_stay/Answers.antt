use Rattle.tk_watch.proofs.KeyLemmas.{paused_stays}
use Rattle.tk_watch.proofs.laws.paused_screens_stay.Goals as goal

pub returns : goal.returns
returns c = paused_stays
