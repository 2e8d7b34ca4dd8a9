use Rattle.tk_screen.proofs.RankLemmas.{ranking_is}
use Rattle.tk_screen.proofs.laws.ranking_ranks.Goals as goal

pub returns : goal.returns
returns c = ranking_is
