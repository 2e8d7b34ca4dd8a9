use Rattle.tk_screen.proofs.RankLemmas.{kept_is_front}
use Rattle.tk_screen.proofs.laws.top_is_the_front.Goals as goal

pub returns : goal.returns
returns c = kept_is_front
