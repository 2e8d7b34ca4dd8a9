use Rattle.tk_cell.proofs.HistoryLemmas as histories
use Rattle.tk_cell.proofs.laws.prefix_is_legal.Goals as goal

pub returns : goal.returns
returns g c = histories.prefix_is_legal g.O.Sequential.meaning
