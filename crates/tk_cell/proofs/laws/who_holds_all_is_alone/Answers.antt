use Rattle.tk_cell.proofs.OursLemmas as lemmas
use Rattle.tk_cell.proofs.laws.who_holds_all_is_alone.Goals as goal

pub returns : goal.returns
returns g c = let m = g.O.Sequential.meaning in record { whole = lemmas.all_are_ours m; own = lemmas.its_own_are_all m; alone = lemmas.is_alone m }
