use Rattle.tk_cell.proofs.BesideLemmas.{beside_is_whole}
use Rattle.tk_cell.proofs.laws.a_call_beside_sees_all.Goals as goal

pub returns : goal.returns
returns g c = beside_is_whole g.O.Sequential.meaning
